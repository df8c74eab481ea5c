-- The entities of a list that a test finds, the list growing by one.
use Rattle.std.proofs.Common.{◌≡◌, ℕ, ◌+◌, ◌<◌, List, [], ◌∷◌, ◌++◌, length, get_or, take, sym, ap, ◌∙◌, arith}
use Rattle.std.specs.Prelude.{Bool}
use Rattle.std.specs.List.{filter}
use Rattle.std.proofs.lemmas.List.{take_more, take_all}
use Rattle.std.proofs.lemmas.List.Elements.{filter-append}
use Rattle.st_net.specs.declared.entity.Entity.{Entity}
use Rattle.st_net.specs.Groups.{Group}
use Rattle.st_net.specs.InOrder.{entities_among, entities_of}
use Rattle.st_net.proofs.EntityOrder.{among_count}

-- what was found before a place, and then of what stands there, is what is found before the next
pub found_more : (p : Entity → Bool) (es : List Entity) (n : ℕ) (at : Entity) (before more : List Entity) → n < length es → at ≡ get_or es n at → before ≡ filter p (take n es) → more ≡ before ++ filter p (at ∷ []) → more ≡ filter p (take (n + 1) es)
found_more p es n at before more low is was added =
    added
    ∙ ap (λ (found : List Entity). found ++ filter p (at ∷ [])) was
    ∙ sym (filter-append p (take n es) (at ∷ []))
    ∙ ap (λ (e : Entity). filter p (take n es ++ e ∷ [])) is
    ∙ ap (filter p) (sym (take_more es n at low))

-- what was found before the place behind as many devices and links as a group has is what is found in its entities
pub found_in_all : (p : Entity → Bool) (g : Group) (devices links n : ℕ) (found : List Entity) → n ≡ devices + links → devices ≡ length g.devices → links ≡ length g.links → found ≡ filter p (take n (entities_among devices links)) → found ≡ filter p (entities_of g)
found_in_all p g devices links n found all all_devices all_links was =
    let count = among_count devices links in
    was
    ∙ ap (filter p) (take_all n (entities_among devices links) (omega (arith, count, all)))
    ∙ ap (λ (k : ℕ). filter p (entities_among k links)) all_devices
    ∙ ap (λ (k : ℕ). filter p (entities_among (length g.devices) k)) all_links
