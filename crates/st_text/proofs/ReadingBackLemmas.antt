-- What is printed is cut again as it was.
use Rattle.std.proofs.Common.{◌≡◌, ℕ, List, [], ◌∷◌, ◌++◌, false, map, filter, ◌∙◌, ap, refl, flat_map}
use Rattle.std.specs.List.{join_with_byte, slice_split}
use Rattle.std.proofs.lemmas.List.{append_assoc}
use Rattle.std.proofs.lemmas.List.Splits.{slice_split_at, slice_split_none}
use Rattle.std.proofs.lemmas.List.Elements.{All-from_recursion}
use Rattle.st_text.specs.Lines.{raw_lines, without_cr}
use Rattle.st_text.specs.Tokens.{is_blank, is_filled, tokens_of}
use Rattle.st_text.specs.ReadingBack.{CutsTokensAgain, CutsLinesAgain}
use Rattle.st_text.specs.Words.{ended}
use Rattle.st_text.proofs.LineLemmas.{raw_lines_at}

pub tokens_cut_again : CutsTokensAgain
tokens_cut_again [] all = refl
tokens_cut_again (t ∷ []) all =
    rw (slice_split_none is_blank t (All-from_recursion (λ b. is_blank b ≡ false) t all.0.unbroken), all.0.filled) refl
tokens_cut_again (t ∷ u ∷ ts) all =
    let rest : List ℕ = join_with_byte 32 (u ∷ ts) in
    let parts : slice_split is_blank (t ++ 32 ∷ rest) ≡ t ∷ slice_split is_blank rest =
    slice_split_at is_blank t 32 rest (All-from_recursion (λ b. is_blank b ≡ false) t all.0.unbroken) refl in
    let cut : tokens_of (t ++ 32 ∷ rest) ≡ t ∷ tokens_of rest = ap (filter is_filled) parts ∙ rw all.0.filled refl in
    cut ∙ ap (λ (r : List (List ℕ)). t ∷ r) (tokens_cut_again (u ∷ ts) all.1)

pub lines_cut_again : CutsLinesAgain
lines_cut_again [] all = refl
lines_cut_again (l ∷ ls) all =
    let parts : raw_lines (flat_map ended (l ∷ ls)) ≡ l ∷ raw_lines (flat_map ended ls) =
    ap raw_lines (append_assoc l (10 ∷ []) (flat_map ended ls))
    ∙ raw_lines_at l (flat_map ended ls) 10 all.0.unbroken refl in
    ap (map without_cr) parts ∙ rw (all.0.plain, lines_cut_again ls all.1) refl
