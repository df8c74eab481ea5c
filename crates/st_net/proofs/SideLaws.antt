-- The least side is the cut of the least value that each cut of that value has.
use Rattle.std.proofs.Common.{◌≡◌, ◌≢◌, ℕ, zero, suc, ◌<◌, List, refl, ap, ◌∙◌, sym, arith}
use Rattle.std.specs.Prelude.{Bool, true, false, ◌||◌, ◌==◌, not}
use Rattle.std.proofs.lemmas.Bool.Decides.{nat_tests}
use mathlib.Core.Path.{fun_ext}
use Rattle.st_net.specs.declared.entity.Entity.{Entity}
use Rattle.st_net.specs.declared.topo.LinkOpening.{LinkOpening}
use Rattle.st_net.specs.Groups.{AreLinks}
use Rattle.st_net.specs.Cuts.{cut_value, IsCut, with_number, all_over, cut_of, least_cut, is_in_least_side}
use Rattle.st_net.proofs.CutLaws.{clip, clip_none, clip_in, clip_out}
use Rattle.st_net.proofs.Tests.{both}
use Rattle.st_net.proofs.WalkLaws.{cut_rests, cut_of_rests, cut_of_cut}

all_clip_at : (n : ℕ) (test : (ℕ → Bool) → Bool) (side : ℕ → Bool) (p : Bool) → side n ≡ p → test (clip n side) ≡ true → test (with_number (clip n side) n) ≡ true → test (clip (suc n) side) ≡ true
all_clip_at n test side true is without with_it = ap test (sym (fun_ext (clip_in n side is))) ∙ with_it
all_clip_at n test side false is without with_it = ap test (sym (fun_ext (clip_out n side is))) ∙ without

-- each set of numbers below n passes
all_clip : (n : ℕ) (test : (ℕ → Bool) → Bool) (side : ℕ → Bool) → all_over n test ≡ true → test (clip n side) ≡ true
all_clip zero test side all = ap test (sym (fun_ext (clip_none side))) ∙ all
all_clip (suc n) test side all =
    let parts = both (all_over n test) (all_over n (λ s. test (with_number s n))) all in
    all_clip_at n test side (side n) refl (all_clip n test side parts.0) (all_clip n (λ s. test (with_number s n)) side parts.1)

-- where each set passes, all do
all_make : (n : ℕ) (test : (ℕ → Bool) → Bool) → ((side : ℕ → Bool) → test side ≡ true) → all_over n test ≡ true
all_make zero test each = each (λ d. false)
all_make (suc n) test each = rw (all_make n test each, all_make n (λ s. test (with_number s n)) (λ s. each (with_number s n))) refl

clip_same : (n : ℕ) (side : ℕ → Bool) (d : ℕ) → d < n → clip n side d ≡ side d
clip_same n side d low = grind (arith, nat_tests)

same_passes : (v w : ℕ) (x : Bool) → v ≡ w → (not (v == w) || x) ≡ true → x ≡ true
same_passes v w x same passes = grind (arith, nat_tests)

passes_same : (v w : ℕ) (x p : Bool) → (v == w) ≡ p → (v ≡ w → x ≡ true) → (not (v == w) || x) ≡ true
passes_same v w x true is then_x = let same : v ≡ w = grind (arith, nat_tests) in rw (is, then_x same) refl
passes_same v w x false is then_x = rw is refl

-- a device of the least side is in each cut of the least value
pub least_side-within : (n : ℕ) (links : List LinkOpening) (up : Entity → Bool) (a b d : ℕ) (side : ℕ → Bool) → AreLinks n links → d < n → IsCut side a b → cut_value links up side ≡ least_cut n links up a b → is_in_least_side n links up a b d ≡ true → side d ≡ true
least_side-within n links up a b d side are low cut least in_all =
    let passes = all_clip n (λ s. not (cut_value links up (cut_of a b s) == least_cut n links up a b) || cut_of a b s d) side in_all in
    let as_clip : (e : ℕ) → e < n → cut_of a b (clip n side) e ≡ side e = λ e small. cut_of_rests a b n (clip n side) side (clip_same n side) e small ∙ cut_of_cut a b side cut e in
    let value : cut_value links up (cut_of a b (clip n side)) ≡ least_cut n links up a b = cut_rests 0 n links up (cut_of a b (clip n side)) side are as_clip ∙ least in
    sym (as_clip d low) ∙ same_passes _ _ _ value passes

-- a device that is in each cut of the least value is in the least side
pub least_side-has : (n : ℕ) (links : List LinkOpening) (up : Entity → Bool) (a b d : ℕ) → a ≢ b → ((s : ℕ → Bool) → IsCut s a b → cut_value links up s ≡ least_cut n links up a b → s d ≡ true) → is_in_least_side n links up a b d ≡ true
least_side-has n links up a b d apart inmost = all_make n (λ s. not (cut_value links up (cut_of a b s) == least_cut n links up a b) || cut_of a b s d) (λ s. passes_same _ _ _ (_ == _) refl (λ least. inmost (cut_of a b s) (record { inside = grind (arith, nat_tests); outside = grind (arith, nat_tests) }) least))
