-- Ends of small jobs, worked out: jobs that are numbers, each of which promises its double.
use Rattle.std.proofs.Common.{◌≡◌, ℕ, zero, suc, ◌*◌, [], ◌∷◌, Some, slice_get, refl, arith}
use Rattle.st_crew.specs.Ends.{EndsOf}

abbrev doubles : ℕ → ℕ → Type 0
doubles job end = end ≡ 2 * job

at_two_places : (k job end : ℕ) → slice_get (5 ∷ 6 ∷ []) k ≡ Some job → slice_get (10 ∷ 12 ∷ []) k ≡ Some end → doubles job end
at_two_places zero job end a b = let job_is : 5 ≡ job = cc a in let end_is : 10 ≡ end = cc b in omega (arith, job_is, end_is)
at_two_places (suc zero) job end a b = let job_is : 6 ≡ job = cc a in let end_is : 12 ≡ end = cc b in omega (arith, job_is, end_is)
at_two_places (suc (suc k)) job end a b = absurd (cc a)

-- each end at its job's place
pub in_order : EndsOf doubles (5 ∷ 6 ∷ []) (10 ∷ 12 ∷ [])
in_order = record { count = refl; each = at_two_places }

-- not in the order of finishing
pub not_in_another_order : EndsOf doubles (5 ∷ 6 ∷ []) (12 ∷ 10 ∷ []) → ⊥
not_in_another_order ends = absurd (omega (arith, ends.each 0 5 12 refl refl))

-- and none is left out
pub not_one_too_few : EndsOf doubles (5 ∷ 6 ∷ []) (10 ∷ []) → ⊥
not_one_too_few ends = absurd (omega (arith, ends.count))
