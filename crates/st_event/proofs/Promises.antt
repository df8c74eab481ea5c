-- Promises are kept while the network is changed part by part.
use Rattle.std.proofs.Common.{◌≡◌, ℕ, ◌<◌, List, [], ◌∷◌, Option, Some, None, refl, subst, inl, inr}
use Rattle.std.specs.Prelude.{Bool, true, false, option_map, ◌⊎◌}
use Rattle.st_net.specs.declared.entity.Entity.{Entity}
use Rattle.st_net.specs.declared.entity.Entity.TheVariants.{Device, Link}
use Rattle.st_net.specs.declared.promise.Broken.{Broken}
use Rattle.st_event.specs.declared.reply.Cause.TheVariants.{Broken as broken_cause}
use Rattle.st_event.specs.declared.event.Proposal.{Proposal}
use Rattle.st_event.specs.declared.reply.Cause.{Cause}
use Rattle.st_event.specs.declared.event.Event.{Event}
use Rattle.st_event.specs.declared.event.Event.TheVariants.{Check, Fail}
use Rattle.st_event.specs.declared.reply.Reply.{Reply}
use Rattle.st_event.specs.declared.reply.Reply.TheVariants.{Decided}
use Rattle.st_event.specs.declared.journal.Entry.{Entry}
use Rattle.st_net.specs.Groups.{Group, opening_of, IsSound}
use Rattle.st_net.specs.Merge.{target_with, vals_in}
use Rattle.st_net.specs.Sets.{IsWithin}
use Rattle.st_net.specs.Demands.{demand_count, HoldsIn, first_broken_of}
use Rattle.st_event.specs.Proposals.{is_accepted, is_acceptance, target, version}
use Rattle.st_event.specs.Locks.{holder}
use Rattle.st_net.specs.Numbered.{nth}
use Rattle.st_event.specs.Moments.{heard, reports, is_fail_of}
use Rattle.st_event.specs.Observed.{observed, sure, sure_after, actual, untold, failed_between, failed_since}
use Rattle.st_event.specs.Judge.{first_lack, first_locked, cause_or, refusal_or_version}
use Rattle.st_event.specs.Replies.{receipt_of}
use Rattle.st_event.specs.Legal.{IsLegal, IsNext, AtEach}
use Rattle.st_event.specs.Network.{is_fail, HasNoFail, NamesLoss, LossesNamed, KeepsPromises}
use Rattle.st_net.proofs.Tests.{same_vals_self}
use Rattle.st_net.proofs.DemandLaws.{holds_with_more, tells_demands, breaks_none}
use Rattle.st_event.proofs.SureIsUp.{sure_is_up}
use Rattle.st_event.proofs.Targets.{IsAccepted, acceptance}
use Rattle.st_event.proofs.SureSteps.{accepted_within, stays_or_names}

no_cause : (c : Option Broken) → option_map broken_cause c ≡ None → c ≡ None
no_cause None is = refl
no_cause (Some broken) is = cc

accepts_none : (a b c : Option Cause) (version : ℕ) → is_accepted (refusal_or_version (cause_or a (cause_or b c)) version) ≡ true → c ≡ None
accepts_none (Some x) b c version is = cc
accepts_none None (Some x) c version is = cc
accepts_none None None (Some x) version is = cc
accepts_none None None None version is = refl

abbrev pub entry_of : Event → Reply → Entry
entry_of event answer = record { event = event; reply = answer }

-- a demand that holds in the sure set holds in what stays sure, where the proposal is accepted
accepted_keeps : (g : Group) (past : List Entry) (p : Proposal) (i : ℕ) → IsSound g → is_accepted (receipt_of g past p).verdict ≡ true → i < demand_count g → HoldsIn g (sure g past) i → HoldsIn g (sure_after g past p.rows) i
accepted_keeps g past p i sound accepts low holds =
    let breaks = first_broken_of g (sure g past) (sure_after g past p.rows) in
    let test = (tells_demands g sound (sure g past) i low).1 holds in
    let none = accepts_none (first_lack g (observed g past) (target_with (target g past) p.rows) p.rows) (first_locked (holder past) p.app p.rows) (option_map broken_cause breaks) (version past) accepts in
    (tells_demands g sound (sure_after g past p.rows) i low).0 (breaks_none g (sure g past) (sure_after g past p.rows) i (no_cause breaks none) low test)

pub same_entry : (event now : Event) (answer told : Reply) → now ≡ event → told ≡ answer → entry_of event answer ≡ entry_of now told
same_entry event now answer told p q = rw (p, q) refl

by_acceptance : (g : Group) (past : List Entry) (event : Event) (answer : Reply) (i : ℕ) → IsSound g → IsAccepted g past event answer → i < demand_count g → HoldsIn g (sure g past) i → HoldsIn g (sure g (entry_of event answer ∷ past)) i
by_acceptance g past event answer i sound is low holds =
    let kept = accepted_keeps g past is.proposal i sound is.accepts low holds in
    let within = accepted_within g past is.proposal is.rest is.first is.accepts in
    let done = holds_with_more g (sure_after g past is.proposal.rows) (sure g (entry_of Check (Decided (receipt_of g past is.proposal)) ∷ past)) i within kept in
    subst (λ (x : Entry). HoldsIn g (sure g (x ∷ past)) i) (same_entry Check event (Decided (receipt_of g past is.proposal)) answer is.check is.answers) done

by_other : (g : Group) (past : List Entry) (entry : Entry) (i : ℕ) → (IsWithin (sure g past) (sure g (entry ∷ past)) ⊎ NamesLoss g past entry) → HoldsIn g (sure g past) i → HoldsIn g (sure g (entry ∷ past)) i ⊎ NamesLoss g past entry
by_other g past entry i (inl within) holds = inl (holds_with_more g (sure g past) (sure g (entry ∷ past)) i within holds)
by_other g past entry i (inr names) holds = inr names

keeps_at : (g : Group) (past : List Entry) (entry : Entry) (i : ℕ) (b : Bool) → is_acceptance entry.event entry.reply ≡ b → IsSound g → IsLegal g past → IsNext g past entry → i < demand_count g → HoldsIn g (sure g past) i → HoldsIn g (sure g (entry ∷ past)) i ⊎ NamesLoss g past entry
keeps_at g past entry i true accepts sound legal next low keeps = inl (by_acceptance g past entry.event entry.reply i sound (acceptance g past entry.event entry.reply next.answer accepts) low keeps)
keeps_at g past entry i false none sound legal next low keeps = by_other g past entry i (stays_or_names g past entry legal next none) keeps

-- a demand that holds in the sure set goes on to hold there, or the entry names a loss
pub keeps_or_names : (g : Group) (past : List Entry) (entry : Entry) (i : ℕ) → IsSound g → IsLegal g past → IsNext g past entry → i < demand_count g → HoldsIn g (sure g past) i → HoldsIn g (sure g (entry ∷ past)) i ⊎ NamesLoss g past entry
keeps_or_names g past entry i sound legal next low keeps = keeps_at g past entry i (is_acceptance entry.event entry.reply) refl sound legal next low keeps

-- a check takes no demand from the sure set
pub check_keeps : (g : Group) (past : List Entry) (entry : Entry) (i : ℕ) → entry.event ≡ Check → IsSound g → IsLegal g past → IsNext g past entry → i < demand_count g → HoldsIn g (sure g past) i → HoldsIn g (sure g (entry ∷ past)) i
check_keeps g past entry i check sound legal next low keeps = kept (keeps_or_names g past entry i sound legal next low keeps)
  where
    silent : (event : Event) → event ≡ Check → heard event (nth (reports g past)) ≡ None
    silent event is = rw is refl

    kept : (HoldsIn g (sure g (entry ∷ past)) i ⊎ NamesLoss g past entry) → HoldsIn g (sure g (entry ∷ past)) i
    kept (inl keeps) = keeps
    kept (inr names) = let none = silent entry.event check in let some = names.hears in cc

lost_named : (g : Group) (past : List Entry) (entry : Entry) (i : ℕ) → (HoldsIn g (sure g (entry ∷ past)) i ⊎ NamesLoss g past entry) → (HoldsIn g (sure g (entry ∷ past)) i → ⊥) → NamesLoss g past entry
lost_named g past entry i (inl keeps) lost = absurd (lost keeps)
lost_named g past entry i (inr names) lost = names

pub losses_named : (g : Group) (past : List Entry) → IsSound g → IsLegal g past → LossesNamed g past
losses_named g [] sound legal = tt
losses_named g (entry ∷ past) sound legal = λ i low keeps lost. lost_named g past entry i (keeps_or_names g past entry i sound legal.1 legal.0 low keeps) lost

-- without a failure

fails_of : (e : Entity) (event : Event) → is_fail event ≡ false → is_fail_of e event ≡ false
fails_of e (Fail at vals health) none = cc
fails_of e _ none = refl

unfailed_between : (past : List Entry) (e : Entity) (from to : ℕ) → HasNoFail past → failed_between past e from to ≡ false
unfailed_between [] e from to none = refl
unfailed_between (entry ∷ past) e from to none = rw (fails_of e entry.event none.0, unfailed_between past e from to none.1) refl

unfailed_since : (past : List Entry) (e : Entity) (from : ℕ) → HasNoFail past → failed_since past e from ≡ false
unfailed_since [] e from none = refl
unfailed_since (entry ∷ past) e from none = rw (fails_of e entry.event none.0, unfailed_since past e from none.1) refl

pub opening_same : (g : Group) (e : Entity) → vals_in g (target g []) e ≡ opening_of g e
opening_same g (Device i) = refl
opening_same g (Link i) = refl

-- at the start the entities that carry are sure
start_sure : (g : Group) → IsWithin (actual g []) (sure g [])
start_sure g e is = rw (opening_same g e, same_vals_self (opening_of g e)) is

no_loss : (g : Group) (past : List Entry) (entry : Entry) → HasNoFail past → NamesLoss g past entry → ⊥
no_loss g past entry none names =
    let unfailed = unfailed_between past names.report.entity (observed g past names.report.entity).number names.report.number none in
    let failed = names.failed in
    cc

kept_on : (g : Group) (past : List Entry) (entry : Entry) (i : ℕ) → HasNoFail past → (HoldsIn g (sure g (entry ∷ past)) i ⊎ NamesLoss g past entry) → HoldsIn g (sure g (entry ∷ past)) i
kept_on g past entry i none (inl keeps) = keeps
kept_on g past entry i none (inr names) = absurd (no_loss g past entry none names)

-- without a failure a demand that held at the start holds in the sure set
pub sure_keeps : (g : Group) (past : List Entry) (i : ℕ) → IsSound g → IsLegal g past → HasNoFail past → i < demand_count g → HoldsIn g (actual g []) i → HoldsIn g (sure g past) i
sure_keeps g [] i sound legal none low keeps = holds_with_more g (actual g []) (sure g []) i (start_sure g) keeps
sure_keeps g (entry ∷ past) i sound legal none low keeps =
    kept_on g past entry i none.1 (keeps_or_names g past entry i sound legal.1 legal.0 low (sure_keeps g past i sound legal.1 none.1 low keeps))

up_unless : (g : Group) (past : List Entry) (e : Entity) → HasNoFail past → ((actual g past e ≡ true) ⊎ (untold g past e ≡ true)) → actual g past e ≡ true
up_unless g past e none (inl up) = up
up_unless g past e none (inr failed) = let unfailed = unfailed_since past e (observed g past e).number none in cc

-- without a failure each sure entity carries in the network
pub sure_within : (g : Group) (past : List Entry) → HasNoFail past → IsWithin (sure g past) (actual g past)
sure_within g past none e is = up_unless g past e none (sure_is_up g past e is)

-- the whole, at one moment
pub keeps_promises : (g : Group) (past : List Entry) → IsSound g → IsLegal g past → KeepsPromises g past
keeps_promises g past sound legal = record {
  sure_is_up = sure_is_up g past;
  kept_sure = λ none i low keeps. let kept = sure_keeps g past i sound legal none low keeps in record {
    here = kept;
    more = λ wide within. holds_with_more g (sure g past) wide i within kept;
  };
  kept_actual = λ none i low keeps. holds_with_more g (sure g past) (actual g past) i (sure_within g past none) (sure_keeps g past i sound legal none low keeps);
  losses = losses_named g past sound legal;
}

-- and at every moment of a legal journal
pub keeps_throughout : (g : Group) (past : List Entry) → IsSound g → IsLegal g past → AtEach (KeepsPromises g) past
keeps_throughout g [] sound legal = keeps_promises g [] sound legal
keeps_throughout g (entry ∷ past) sound legal = (keeps_promises g (entry ∷ past) sound legal, keeps_throughout g past sound legal.1)
