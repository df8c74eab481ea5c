-- What the prover computes for the document of each fat tree: its journal has room for all entries that it can make.
use Rattle.std.proofs.Common.{◌≡◌, ℕ, zero, suc, ◌+◌, ◌*◌, true, refl, arith}
use Rattle.std.specs.Prelude.{nat_lt}
use Rattle.st_net.proofs.Tests.{less_is}
use Rattle.st_event.specs.declared.journal.TheConstants.{MAX_ENTRIES}
use Rattle.st_words.specs.declared.job.Pods.{Pods}
use Rattle.st_words.specs.declared.job.Pods.TheVariants.{Four, Six, Eight, Ten}
use Rattle.st_words.specs.Jobs.{pod_count}
use Rattle.st_gen.specs.Generated.{generated}
use Rattle.st_serial.specs.Most.{HasRoom, most}
use Rattle.st_top.specs.Trees.{TreesFit, TreesHaveRoom}
use Rattle.st_top.specs.Ways.{tree_doc}
use Rattle.st_serial.proofs.Fitting.{few_entries_fit}

-- it has one group
room_by : (pods seed : ℕ) → nat_lt (most (generated pods seed) 0) MAX_ENTRIES ≡ true → HasRoom (generated pods seed)
room_by pods seed few zero low = less_is (most (generated pods seed) 0) MAX_ENTRIES few
room_by pods seed few (suc n) low = absurd (omega (arith, low))

pub pods_have_room : (pods : Pods) (seed : ℕ) → HasRoom (generated (pod_count pods) seed)
pods_have_room Four seed = room_by 4 seed refl
pods_have_room Six seed = room_by 6 seed refl
pods_have_room Eight seed = room_by 8 seed refl
pods_have_room Ten seed = room_by 10 seed refl

pub trees_have_room : TreesHaveRoom
trees_have_room tree = pods_have_room tree.pods tree.seed

pub trees_fit : TreesFit
trees_fit tree = few_entries_fit (tree_doc tree) (trees_have_room tree)

-- fat trees of 4 and of 10 pods: of 52 and of 625 entities. Each stage is a proposal, an await and a settle of 2 rounds, of which there are 2 and 5;
-- then come a proposal and an await, a lock and an unlock, and two applications
tree_of_4 : (seed : ℕ) → most (generated 4 seed) 0 ≡ 2 * (3 + 64 + 3 * (52 * 6)) + 3 + 64 + 2 + 2 * 64
tree_of_4 seed = refl

tree_of_10 : (seed : ℕ) → most (generated 10 seed) 0 ≡ 56782
tree_of_10 seed = refl
