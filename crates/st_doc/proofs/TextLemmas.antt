-- What stands in a text after one printing and the next, and after some turns of a loop.
use Rattle.std.proofs.Common.{◌≡◌, ℕ, zero, suc, ◌+◌, ◌<◌, ◌≤◌, List, [], ◌∷◌, ◌++◌, length, map, get_or, take, refl, sym, ◌∙◌, ap, append_assoc, add-one, inl, inr, arith}
use Rattle.std.specs.Prelude.{min, ◌⊎◌}
use Rattle.std.proofs.lemmas.List.{append-nil}
use Rattle.st_text.specs.Words.{ended, line_text, text_of, spaced}
use Rattle.st_text.proofs.PrintLemmas.{both_added, line_bytes}
use Rattle.st_net.specs.declared.parts.Parts.{Parts}
use Rattle.st_wire.specs.declared.line.WireLine.{WireLine}
use Rattle.st_doc.specs.Printed.{Words, wire_words, wires_lines}

-- the text of lines behind lines
pub text_append : (a b : List Words) → text_of (a ++ b) ≡ text_of a ++ text_of b
text_append [] b = refl
text_append (w ∷ a) b = ap (λ t. ended (line_text w) ++ t) (text_append a b) ∙ sym (append_assoc (ended (line_text w)) (text_of a) (text_of b))

pub both_lines : (old mid new : List ℕ) (a b : List Words) → mid ≡ old ++ text_of a → new ≡ mid ++ text_of b → new ≡ old ++ text_of (a ++ b)
both_lines old mid new a b first second = both_added old mid new (text_of a) (text_of b) first second ∙ ap (λ t. old ++ t) (sym (text_append a b))

-- words behind words
spaced_append : (a b : Words) → spaced (a ++ b) ≡ spaced a ++ spaced b
spaced_append [] b = refl
spaced_append (w ∷ a) b = ap (λ t. 32 ∷ w ++ t) (spaced_append a b) ∙ ap (λ t. 32 ∷ t) (sym (append_assoc w (spaced a) (spaced b)))

two_parts : (w : List ℕ) (a b : Words) → text_of ((w ∷ (a ++ b)) ∷ []) ≡ (w ++ spaced a) ++ (spaced b ++ 10 ∷ [])
two_parts w a b =
    line_bytes w (a ++ b) ∙ ap (λ t. (w ++ t) ++ 10 ∷ []) (spaced_append a b)
    ∙ (ap (λ t. t ++ 10 ∷ []) (sym (append_assoc w (spaced a) (spaced b))) ∙ append_assoc (w ++ spaced a) (spaced b) (10 ∷ []))

pub line_ended : (old mid next new w : List ℕ) (a b : Words) → mid ≡ old ++ (w ++ spaced a) → next ≡ mid ++ spaced b → new ≡ next ++ 10 ∷ [] → new ≡ old ++ text_of ((w ∷ (a ++ b)) ∷ [])
line_ended old mid next new w a b before more end = both_added old mid new (w ++ spaced a) (spaced b ++ 10 ∷ []) before (both_added mid next new (spaced b) (10 ∷ []) more end) ∙ ap (λ t. old ++ t) (sym (two_parts w a b))

-- the wire lines of the first groups, and those of one more
pub wires_more : (gs : List Parts) (ws : List (List WireLine)) (n : ℕ) (g : Parts) (lines : List WireLine) → n < length gs → n < length ws → g ≡ get_or gs n g → lines ≡ get_or ws n lines
    → wires_lines (take (n + 1) gs) (take (n + 1) ws) ≡ wires_lines (take n gs) (take n ws) ++ map (wire_words g.name) lines
wires_more gs ws n g lines low few is are = rw add-one (by gs ws n low few is are)
  where
    by : (gs : List Parts) (ws : List (List WireLine)) (n : ℕ) → n < length gs → n < length ws → g ≡ get_or gs n g → lines ≡ get_or ws n lines → wires_lines (take (suc n) gs) (take (suc n) ws) ≡ wires_lines (take n gs) (take n ws) ++ map (wire_words g.name) lines
    by [] ws n low few is are = absurd (omega arith)
    by (x ∷ gs) [] n low few is are = absurd (omega arith)
    by (x ∷ gs) (w ∷ ws) zero low few is are = rw (is, are) (append-nil (map (wire_words x.name) w))
    by (x ∷ gs) (w ∷ ws) (suc n) low few is are =
        ap (λ (ls : List Words). map (wire_words x.name) w ++ ls) (by gs ws n (omega arith) (omega arith) is are)
        ∙ sym (append_assoc (map (wire_words x.name) w) (wires_lines (take n gs) (take n ws)) (map (wire_words g.name) lines))

pub wires_next : (gs : List Parts) (ws : List (List WireLine)) (n : ℕ) (g : Parts) (lines : List WireLine) (old mid new : List ℕ) → n < length gs → n < length ws → g ≡ get_or gs n g → lines ≡ get_or ws n lines
    → mid ≡ old ++ text_of (wires_lines (take n gs) (take n ws)) → new ≡ mid ++ text_of (map (wire_words g.name) lines) → new ≡ old ++ text_of (wires_lines (take (n + 1) gs) (take (n + 1) ws))
wires_next gs ws n g lines old mid new low few is are before added =
    both_lines old mid new (wires_lines (take n gs) (take n ws)) (map (wire_words g.name) lines) before added ∙ ap (λ (ls : List Words). old ++ text_of ls) (sym (wires_more gs ws n g lines low few is are))

wires_all : (gs : List Parts) (ws : List (List WireLine)) (n : ℕ) → (length gs ≤ n) ⊎ (length ws ≤ n) → wires_lines (take n gs) (take n ws) ≡ wires_lines gs ws
wires_all [] ws zero past = refl
wires_all [] ws (suc n) past = refl
wires_all (x ∷ gs) [] zero past = refl
wires_all (x ∷ gs) [] (suc n) past = refl
wires_all (x ∷ gs) (w ∷ ws) zero past = elim past [ inl low ↦ absurd (omega arith) | inr low ↦ absurd (omega arith) ]
wires_all (x ∷ gs) (w ∷ ws) (suc n) past = ap (λ (ls : List Words). map (wire_words x.name) w ++ ls) (wires_all gs ws n (elim past [ inl low ↦ inl (omega arith) | inr low ↦ inr (omega arith) ]))

pub wires_end : (gs : List Parts) (ws : List (List WireLine)) (n : ℕ) (old new : List ℕ) → n ≡ min (length gs) (length ws) → new ≡ old ++ text_of (wires_lines (take n gs) (take n ws)) → new ≡ old ++ text_of (wires_lines gs ws)
wires_end gs ws n old new count before = before ∙ ap (λ (ls : List Words). old ++ text_of ls) (wires_all gs ws n (past count))
  where
    past : n ≡ min (length gs) (length ws) → (length gs ≤ n) ⊎ (length ws ≤ n)
    past count = grind arith
