-- What is true of every roll, by the laws of passes and of refusals.
use Rattle.std.proofs.Common.{◌≡◌, ℕ, ◌+◌, ◌<◌, List, [], ◌∷◌, ◌++◌, length, cond, Option, Some, None, refl, sym, ap, subst, ◌∙◌, arith}
use Rattle.std.specs.Prelude.{Bool, true, false, ◌==◌, not, filter, sum_by, IfSome}
use Rattle.std.proofs.lemmas.List.Elements.{All-weaker, filter_passes}
use Rattle.std.proofs.lemmas.List.Sums.{sum_by-append, sum_by-cons}
use Rattle.st_net.specs.declared.entity.AppId.{AppId}
use Rattle.st_net.specs.declared.entity.Entity.{Entity}
use Rattle.st_net.specs.declared.promise.Broken.{Broken}
use Rattle.st_net.specs.Demands.{is_held_in, first_broken_of, broken_demand, demand_count}
use Rattle.st_net.specs.Groups.{Group}
use Rattle.st_net.specs.Laws.{DemandsHoldWithMore, TellsDemands, BreaksNone}
use Rattle.st_net.specs.Merge.{target_with}
use Rattle.st_event.specs.declared.reply.Cause.{Cause}
use Rattle.st_event.specs.declared.reply.Cause.TheVariants.{NotControllable, Locked, Broken as broken_cause}
use Rattle.st_event.specs.Judge.{first_lack, first_locked}
use Rattle.st_event.specs.Standing.{Standing, sure_in}
use Rattle.st_roll.specs.declared.plan.Batch.{Batch}
use Rattle.st_roll.specs.declared.plan.Left.{Left}
use Rattle.st_roll.specs.declared.plan.Why.{Why}
use Rattle.st_roll.specs.declared.plan.Why.TheVariants.{Cause as for_cause, Full}
use Rattle.st_roll.specs.Firmware.{firmware_rows}
use Rattle.st_roll.specs.Refusal.{left_up, device_refusal}
use Rattle.st_roll.specs.Passes.{all_passes}
use Rattle.st_roll.specs.Roll.{is_at, others_of, roll_of}
use Rattle.st_roll.specs.Kept.{IsBrokenBy, IfBroken, IsBehind, IsBatch, IsRoll, devices_in}
use Rattle.st_roll.proofs.PassLaws.{Behind, LeftBehind, IsSaid}
use Rattle.st_roll.proofs.PlanLaws.{IsBatchBy, is_plan, batch_devices, sum_passes}
use Rattle.st_roll.proofs.PassLaws.{stuck_devices}
use Rattle.st_roll.proofs.AlterLaws.{left_within}
use Rattle.st_roll.proofs.BrokenLaws.{IsBreak, found_is, lacks_name, locks_name, named, none_named}

-- what every topology keeps
pub record HasLaws (g : Group) : Type 0 where
  pub more : DemandsHoldWithMore g
  pub tells : TellsDemands g
  pub none_breaks : BreaksNone g

-- what a cause says of devices that were asked together
abbrev says_of : Group → Standing → ℕ → List ℕ → Cause → Type 0
says_of g st f devices cause = IfBroken (IsBrokenBy g st f devices) cause

true_not_false : (b : Bool) → b ≡ true → b ≡ false → ⊥
true_not_false b held failed = cc

-- a demand that breaks bars every application
broken_by : (g : Group) (st : Standing) (f : ℕ) (devices : List ℕ) (broken : Broken) → HasLaws g → IsBreak g (sure_in g st) (left_up g st (firmware_rows f devices)) (broken_demand g broken) → IsBrokenBy g st f devices broken
broken_by g st f devices broken laws is = record {
  among = is.among;
  holds = is.held;
  fails = is.fails;
  refused = λ app none.
      let rows = firmware_rows f devices in
      let first = none_named (first_lack g st.observed (target_with st.target rows) rows) (first_locked st.holder app rows) (first_broken_of g (sure_in g st) (left_up g st rows)) none in
      true_not_false (is_held_in g (left_up g st rows) (broken_demand g broken)) (laws.none_breaks (sure_in g st) (left_up g st rows) (broken_demand g broken) first is.among is.held) is.fails;
}

first_says : (g : Group) (st : Standing) (f : ℕ) (devices : List ℕ) (o : Option Broken) → HasLaws g → first_broken_of g (sure_in g st) (left_up g st (firmware_rows f devices)) ≡ o → IfSome o (IsBrokenBy g st f devices)
first_says g st f devices None laws is = tt
first_says g st f devices (Some broken) laws is = broken_by g st f devices broken laws (found_is g (sure_in g st) (left_up g st (firmware_rows f devices)) broken is)

gives_of : (g : Group) (st : Standing) (app : AppId) (f : ℕ) → HasLaws g → (devices : List ℕ) (cause : Cause) → device_refusal g st app f devices ≡ Some cause → says_of g st f devices cause
gives_of g st app f laws devices cause is =
    let rows = firmware_rows f devices in
    let says = IsBrokenBy g st f devices in
    let first = first_broken_of g (sure_in g st) (left_up g st rows) in
    let all = named says (first_lack g st.observed (target_with st.target rows) rows) (first_locked st.holder app rows) first
    (lacks_name says g st.observed (target_with st.target rows) rows)
    (locks_name says st.holder app rows)
    (first_says g st f devices first laws refl) in
    subst (λ (o : Option Cause). IfSome o (IfBroken says)) is all

-- a demand that fails goes on to fail while a larger batch changes
still_fails : (g : Group) (up more : Entity → Bool) (i : ℕ) (b : Bool) → HasLaws g → ((e : Entity) → up e ≡ true → more e ≡ true) → i < demand_count g → is_held_in g more i ≡ false → is_held_in g up i ≡ b → is_held_in g up i ≡ false
still_fails g up more i false laws within among fails is = is
still_fails g up more i true laws within among fails is =
    let holds = laws.more up more i within ((laws.tells up i among).0 is) in
    absurd (true_not_false (is_held_in g more i) ((laws.tells more i among).1 holds) fails)

grows_of : (g : Group) (st : Standing) (f : ℕ) → HasLaws g → (batch : List ℕ) (x d : ℕ) (cause : Cause) → says_of g st f (batch ++ d ∷ []) cause → says_of g st f ((batch ++ x ∷ []) ++ d ∷ []) cause
grows_of g st f laws batch x d (NotControllable row lack) is = tt
grows_of g st f laws batch x d (Locked e holder prio) is = tt
grows_of g st f laws batch x d (broken_cause broken) is =
    let up = left_up g st (firmware_rows f ((batch ++ x ∷ []) ++ d ∷ [])) in
    let more = left_up g st (firmware_rows f (batch ++ d ∷ [])) in
    broken_by g st f ((batch ++ x ∷ []) ++ d ∷ []) broken laws (record {
      among = is.among;
      held = is.holds;
      fails = still_fails g up more (broken_demand g broken) (is_held_in g up (broken_demand g broken)) laws (left_within g (sure_in g st) st.target f batch x d) is.among is.fails refl;
    })

said_of : (g : Group) (st : Standing) (app : AppId) (f : ℕ) → HasLaws g → IsSaid (device_refusal g st app f) (says_of g st f)
said_of g st app f laws = record { gives = gives_of g st app f laws; grows = grows_of g st f laws }

behind_of : (g : Group) (st : Standing) (f : ℕ) (batch : List ℕ) (d : ℕ) (why : Why) → Behind (says_of g st f) batch d why → IsBehind g st f batch d why
behind_of g st f batch d Full is = is
behind_of g st f batch d (for_cause cause) is = is

batch_of_roll : (g : Group) (st : Standing) (app : AppId) (f : ℕ) (batch : Batch) → IsBatchBy (device_refusal g st app f) (says_of g st f) batch → IsBatch g st app f batch
batch_of_roll g st app f batch is = record {
  some = is.some;
  few = is.few;
  accepted = is.accepted;
  behind = All-weaker (LeftBehind (says_of g st f) batch.devices) (λ (l : Left). IsBehind g st f batch.devices l.device l.why) (λ l behind. behind_of g st f batch.devices l.device l.why behind) batch.left is.behind;
}

-- those with the firmware and the others are all
split_sum : (w : ℕ → ℕ) (test : ℕ → Bool) (ds : List ℕ) → sum_by w (filter (λ d. not (test d)) ds) + sum_by w (filter test ds) ≡ sum_by w ds
split_sum w test [] = refl
split_sum w test (d ∷ ds) = one_more (test d) ∙ grouped (w d) (sum_by w (filter (λ d. not (test d)) ds)) (sum_by w (filter test ds)) ∙ ap (λ n. w d + n) (split_sum w test ds) ∙ sym (sum_by-cons w d ds)
  where
    turned : (a b c : ℕ) → b + (a + c) ≡ (a + b) + c
    turned a b c = omega arith

    grouped : (a b c : ℕ) → (a + b) + c ≡ a + (b + c)
    grouped a b c = omega arith

    one_more : (b : Bool) → sum_by w (cond (not b) (d ∷ filter (λ d. not (test d)) ds) (filter (λ d. not (test d)) ds)) + sum_by w (cond b (d ∷ filter test ds) (filter test ds)) ≡ (w d + sum_by w (filter (λ d. not (test d)) ds)) + sum_by w (filter test ds)
    one_more true = ap (λ n. sum_by w (filter (λ d. not (test d)) ds) + n) (sum_by-cons w d (filter test ds)) ∙ turned (w d) (sum_by w (filter (λ d. not (test d)) ds)) (sum_by w (filter test ds))
    one_more false = ap (λ n. n + sum_by w (filter test ds)) (sum_by-cons w d (filter (λ d. not (test d)) ds))

each_of : (g : Group) (st : Standing) (app : AppId) (devices : List ℕ) (f : ℕ) (w : ℕ → ℕ) → sum_by w (devices_in (roll_of g st app devices f)) ≡ sum_by w devices
each_of g st app devices f w =
    let plan = all_passes (device_refusal g st app f) (others_of st f devices) in
    let batches = batch_devices plan.batches in
    let stuck = stuck_devices plan.stuck in
    let same = filter (is_at st f) devices in
    let parts = sum_by-append w batches (stuck ++ same) ∙ ap (λ n. sum_by w batches + n) (sum_by-append w stuck same) in
    let passed = sum_passes (device_refusal g st app f) w (length (others_of st f devices)) (others_of st f devices) (omega arith) in
    let both = split_sum w (is_at st f) devices in
    parts ∙ joined (sum_by w batches) (sum_by w stuck) (sum_by w same) (sum_by w (others_of st f devices)) (sum_by w devices) passed both
  where
    joined : (a b c others all : ℕ) → a + b ≡ others → others + c ≡ all → a + (b + c) ≡ all
    joined a b c others all passed both = omega (arith, passed, both)

pub is_roll : (g : Group) (st : Standing) (app : AppId) (devices : List ℕ) (f : ℕ) → HasLaws g → IsRoll g st app devices f (roll_of g st app devices f)
is_roll g st app devices f laws =
    let plan = is_plan (device_refusal g st app f) (says_of g st f) (length (others_of st f devices)) (others_of st f devices) (said_of g st app f laws) in
    record {
      batches = All-weaker (IsBatchBy (device_refusal g st app f) (says_of g st f)) (IsBatch g st app f) (batch_of_roll g st app f) (all_passes (device_refusal g st app f) (others_of st f devices)).batches plan.batches;
      stuck = plan.stuck;
      same = filter_passes (is_at st f) devices;
      each = λ d. each_of g st app devices f (λ x. cond (x == d) 1 0);
    }
