-- The ends of a link are devices of its group.
use Rattle.std.proofs.Common.{ℕ, zero, suc, ◌<◌, List, [], ◌∷◌, length, get_or, arith}
use Rattle.st_net.specs.declared.topo.LinkOpening.{LinkOpening}
use Rattle.st_net.specs.Groups.{no_link, IsLink, AreLinks}

pub is_link_at : (n : ℕ) (links : List LinkOpening) (i : ℕ) → AreLinks n links → i < length links → IsLink n (get_or links i no_link)
is_link_at n [] i are lt = absurd (omega arith)
is_link_at n (link ∷ links) zero are lt = are.0
is_link_at n (link ∷ links) (suc i) are lt = is_link_at n links i are.1 (omega arith)
