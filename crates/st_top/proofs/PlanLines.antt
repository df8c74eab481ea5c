-- The lines of a plan's batches, and the devices that are planned for.
use Rattle.std.proofs.Common.{◌≡◌, ℕ, zero, suc, ◌+◌, ◌<◌, List, [], ◌∷◌, ◌++◌, length, get_or, take, length-take-le, ◌≤◌, sym, ◌∙◌, ap, arith, append_assoc, subst}
use Rattle.std.specs.Prelude.{All}
use Rattle.std.specs.List.{range_with_len}
use Rattle.std.proofs.lemmas.List.{append-nil, take_more}
use Rattle.std.proofs.lemmas.List.Elements.{All-nil, All-cons}
use Rattle.st_text.specs.Words.{text_of}
use Rattle.st_entry.specs.Words.{Words}
use Rattle.st_net.specs.declared.entity.AppId.{AppId}
use Rattle.st_net.specs.Groups.{Group}
use Rattle.st_event.specs.History.{History}
use Rattle.st_event.specs.Standing.{Standing, standing_of}
use Rattle.st_control.specs.Control.{ControlView, standing_in}
use Rattle.st_roll.specs.declared.plan.Batch.{Batch}
use Rattle.st_roll.specs.declared.plan.Roll.{Roll}
use Rattle.st_roll.specs.Roll.{roll_of}
use Rattle.st_top.specs.Rolling.{batch_lines, batches_lines, plan_lines, roll_lines}
use Rattle.st_top.proofs.TextLines.{text_both}

-- one batch more
batches_more : (g : Group) (apps : List (List ℕ)) (n : ℕ) (batches : List Batch) (batch : Batch) → batches_lines g apps n (batches ++ batch ∷ []) ≡ batches_lines g apps n batches ++ batch_lines g apps (n + length batches) batch
batches_more g apps n [] batch = let none : n ≡ n + length {A = Batch} [] = omega arith in append-nil (batch_lines g apps n batch) ∙ ap (λ (m : ℕ). batch_lines g apps m batch) none
batches_more g apps n (first ∷ batches) batch =
    let count : n + 1 + length batches ≡ n + suc (length batches) = omega arith in
    ap (λ (ls : List Words). batch_lines g apps n first ++ ls) (batches_more g apps (n + 1) batches batch)
    ∙ ap (λ (m : ℕ). batch_lines g apps n first ++ (batches_lines g apps (n + 1) batches ++ batch_lines g apps m batch)) count
    ∙ sym (append_assoc (batch_lines g apps n first) (batches_lines g apps (n + 1) batches) (batch_lines g apps (n + suc (length batches)) batch))

pub batch_next : (g : Group) (apps : List (List ℕ)) (batches : List Batch) (i number : ℕ) (batch d : Batch) (old mid new : List ℕ) → i < length batches → batch ≡ get_or batches i d → number ≡ i + 1 → mid ≡ old ++ text_of (batches_lines g apps 1 (take i batches)) → new ≡ mid ++ text_of (batch_lines g apps number batch)
    → new ≡ old ++ text_of (batches_lines g apps 1 (take (i + 1) batches))
batch_next g apps batches i number batch d old mid new low is counted before added =
    let many : length (take i batches) ≡ i = length-take-le i batches (omega (arith, low)) in
    let one : text_of (batches_lines g apps 1 (take (i + 1) batches)) ≡ text_of (batches_lines g apps 1 (take i batches)) ++ text_of (batch_lines g apps number batch) =
    ap (λ (bs : List Batch). text_of (batches_lines g apps 1 bs)) (take_more batches i d low ∙ ap (λ (b : Batch). take i batches ++ b ∷ []) (sym is))
    ∙ ap text_of (batches_more g apps 1 (take i batches) batch)
    ∙ ap (λ (m : ℕ). text_of (batches_lines g apps 1 (take i batches) ++ batch_lines g apps m batch)) (ap (λ (m : ℕ). 1 + m) many ∙ omega (arith, counted))
    ∙ text_both (batches_lines g apps 1 (take i batches)) (batch_lines g apps number batch) in
    added ∙ ap (λ t. t ++ text_of (batch_lines g apps number batch)) before ∙ append_assoc old (text_of (batches_lines g apps 1 (take i batches))) (text_of (batch_lines g apps number batch)) ∙ ap (λ t. old ++ t) (sym one)

-- the numbers from a on, one more of them, and each below where they end
range_more : (a n : ℕ) → range_with_len a (suc n) ≡ range_with_len a n ++ (a + n) ∷ []
range_more a zero = let none : a ≡ a + 0 = omega arith in ap (λ (d : ℕ). d ∷ []) none
range_more a (suc n) =
    let last : a + 1 + n ≡ a + suc n = omega arith in
    ap (λ (ds : List ℕ). a ∷ ds) (range_more (a + 1) n) ∙ ap (λ (d : ℕ). a ∷ (range_with_len (a + 1) n ++ d ∷ [])) last

pub device_next : (n : ℕ) (devices more : List ℕ) → devices ≡ range_with_len 0 n → more ≡ devices ++ n ∷ [] → more ≡ range_with_len 0 (n + 1)
device_next n devices more was adds =
    let next : suc n ≡ n + 1 = omega arith in
    adds ∙ ap (λ (ds : List ℕ). ds ++ n ∷ []) was ∙ ap (λ (d : ℕ). range_with_len 0 n ++ d ∷ []) (omega arith) ∙ sym (range_more 0 n) ∙ ap (range_with_len 0) next

range_low : (a n most : ℕ) → a + n ≤ most → All (λ (d : ℕ). d < most) (range_with_len a n)
range_low a zero most low = All-nil (λ (d : ℕ). d < most)
range_low a (suc n) most low = All-cons (λ (d : ℕ). d < most) a (range_with_len (a + 1) n) (omega (arith, low)) (range_low (a + 1) n most (omega (arith, low)))

pub devices_low : (n : ℕ) → All (λ (d : ℕ). d < n) (range_with_len 0 n)
devices_low n = range_low 0 n n (omega arith)

-- what the plan of a checker that stands as a journal leaves its group is planned for
pub all_low : (g topo : Group) (devices slice : List ℕ) → topo ≡ g → devices ≡ range_with_len 0 (length topo.devices) → slice ≡ devices → All (λ (d : ℕ). d < length g.devices) slice
all_low g topo devices slice same all whole =
    subst (All (λ (d : ℕ). d < length g.devices)) (sym (whole ∙ all ∙ ap (λ (x : Group). range_with_len 0 (length x.devices)) same)) (devices_low (length g.devices))

-- and the lines of that plan
pub plan_is : (k : ControlView) (h : History) (apps : List (List ℕ)) (firmware : ℕ) (topo spelled : Group) (devices slice : List ℕ) (roll : Roll) → k.group ≡ h.group → standing_in k ≡ standing_of h.group h.past → topo ≡ k.group → spelled ≡ k.group
    → devices ≡ range_with_len 0 (length topo.devices) → slice ≡ devices → roll ≡ roll_of k.group (standing_in k) (record { 0 = length apps }) slice firmware → plan_lines spelled apps roll ≡ roll_lines apps firmware h
unfolding roll_lines
plan_is k h apps firmware topo spelled devices slice roll same standing of named all whole is =
    let g = h.group in
    let app : AppId = record { 0 = length apps } in
    let list : slice ≡ range_with_len 0 (length g.devices) = whole ∙ all ∙ ap (λ (x : Group). range_with_len 0 (length x.devices)) (of ∙ same) in
    let planned : roll ≡ roll_of g (standing_of g h.past) app (range_with_len 0 (length g.devices)) firmware =
    is
    ∙ ap (λ (x : Group). roll_of x (standing_in k) app slice firmware) same
    ∙ ap (λ (s : Standing). roll_of g s app slice firmware) standing
    ∙ ap (λ (ds : List ℕ). roll_of g (standing_of g h.past) app ds firmware) list in
    ap (λ (x : Group). plan_lines x apps roll) (named ∙ same) ∙ ap (plan_lines g apps) planned

pub plan_added : (old new : List ℕ) (lines more : List Words) → lines ≡ more → new ≡ old ++ text_of lines → new ≡ old ++ text_of more
plan_added old new lines more same is = is ∙ ap (λ (ls : List Words). old ++ text_of ls) same
