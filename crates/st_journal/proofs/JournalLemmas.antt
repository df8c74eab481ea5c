-- Groups without a journal get the empty one.
use Rattle.std.proofs.Common.{◌≡◌, ℕ, suc, ◌+◌, ◌-◌, ◌<◌, List, [], ◌∷◌, ◌++◌, refl, arith, append_assoc}
use Rattle.st_event.specs.declared.journal.Journal.{Journal}
use Rattle.st_journal.specs.JournalLines.{empty_journals}

abbrev pub empty_journal : ℕ → Journal
empty_journal n = record { group = n; entries = [] }

-- one empty journal more, and one less to come
pub filled_more : (n count : ℕ) (journals : List Journal) → n < count → (journals ++ empty_journal n ∷ []) ++ empty_journals (n + 1) (count - (n + 1)) ≡ journals ++ empty_journals n (count - n)
filled_more n count journals less =
    let step : count - n ≡ suc (count - (n + 1)) = omega arith in
    rw (step, append_assoc journals (empty_journal n ∷ []) (empty_journals (n + 1) (count - (n + 1)))) refl
