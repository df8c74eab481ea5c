-- A world in which events are entered, and its answer to who wants its group back.
use Rattle.std.proofs.Common.{◌≡◌, ℕ, List, [], ◌∷◌, length, true, false, refl, ap, sym, ◌∙◌, subst, arith}
use Rattle.std.specs.Prelude.{codes, nat_lt}
use Rattle.std.proofs.lemmas.Bool.Decides.{nat_tests}
use Rattle.st_text.specs.Words.{text_of}
use Rattle.st_net.specs.declared.entity.Row.{Row}
use Rattle.st_net.specs.Groups.{Group}
use Rattle.st_event.specs.declared.event.Event.{Event}
use Rattle.st_event.specs.declared.journal.Entry.{Entry}
use Rattle.st_event.specs.declared.journal.TheConstants.{MAX_ENTRIES}
use Rattle.st_event.specs.declared.reply.Reply.{Reply}
use Rattle.st_event.specs.History.{History}
use Rattle.st_event.specs.Services.{entry_after}
use Rattle.st_event.specs.Standing.{standing_of}
use Rattle.st_event.specs.Versions.{value_at}
use Rattle.st_control.specs.Control.{ControlView, standing_in, versions_in}
use Rattle.st_world.specs.declared.world.Stepped.{Stepped}
use Rattle.st_world.specs.declared.world.Stepped.TheVariants.{Did, JournalFull}
use Rattle.st_world.specs.declared.world.rounds.Going.{Going}
use Rattle.st_world.specs.declared.world.rounds.Going.TheVariants.{On, Full}
use Rattle.st_world.specs.Rounds.{Course, HasSameSetting, course_from, course_with, enter, enter_all}
use Rattle.st_world.specs.World.{Steps, WorldView}
use Rattle.st_world.proofs.RoundLaws.{enters_next}
use Rattle.st_world.proofs.RunLaws.{enter-stopped, entered}
use Rattle.st_revert.specs.declared.back.Revert.{Revert}
use Rattle.st_revert.specs.declared.back.Revert.TheVariants.{Rows, NoVersion, Same, TooMany}
use Rattle.st_revert.specs.Back.{revert_after, revert_of}
use Rattle.st_revert.proofs.BackLaws.{of_journal}
use Rattle.st_serial.specs.Serial.{state_of}
use Rattle.st_top.specs.Reverting.{answer_words, asked_by, course_back, revert_words}

-- one event

pub did_enter : (old new : WorldView) (event : Event) (stepped : Stepped) (reply : Reply) → stepped ≡ Did reply → Steps old.history new.history event stepped → course_with On new ≡ enter old.history.group (course_from old.history.past) event
did_enter old new event stepped reply is steps = enters_next old.history new.history event reply (subst (Steps old.history new.history event) is steps)

not_less : (m n : ℕ) → m ≡ n → nat_lt m n ≡ false
not_less m n same = grind (arith, same, nat_tests)

was_full : (old new : WorldView) (event : Event) (entries : ℕ) → Steps old.history new.history event (JournalFull entries) → course_with Full new ≡ enter old.history.group (course_from old.history.past) event
was_full old new event entries steps =
    ap (λ (h : History). record { past = h.past; stopped = true }) steps.2
    ∙ sym (ap (entered (course_from old.history.past) (entry_after old.history.group old.history.past event) false) (not_less (length old.history.past) MAX_ENTRIES steps.0))

pub did_fill : (old new : WorldView) (event : Event) (stepped : Stepped) (entries : ℕ) → stepped ≡ JournalFull entries → Steps old.history new.history event stepped → course_with Full new ≡ enter old.history.group (course_from old.history.past) event
did_fill old new event stepped entries is steps = was_full old new event entries (subst (Steps old.history new.history event) is steps)

pub same_group : (old new : History) (event : Event) (stepped : Stepped) → Steps old new event stepped → new.group ≡ old.group
same_group old new event (Did reply) steps = ap (λ (h : History). h.group) steps.1
same_group old new event (JournalFull entries) steps = ap (λ (h : History). h.group) steps.2

-- two events

pub both_enter : (old mid new : WorldView) (a b : Event) (first second : Going) → first ≡ On → HasSameSetting old mid → course_with first mid ≡ enter old.history.group (course_from old.history.past) a → course_with second new ≡ enter mid.history.group (course_from mid.history.past) b
    → course_with second new ≡ enter_all old.history.group (course_from old.history.past) (a ∷ b ∷ [])
both_enter old mid new a b first second on setting goes later =
    later
    ∙ ap (λ (g : Group). enter g (course_from mid.history.past) b) setting.group
    ∙ ap (λ (course : Course). enter old.history.group course b) (ap (λ (going : Going). course_with going mid) (sym on) ∙ goes)

pub one_fills : (old mid : WorldView) (a b : Event) (first : Going) → first ≡ Full → course_with first mid ≡ enter old.history.group (course_from old.history.past) a → course_with Full mid ≡ enter_all old.history.group (course_from old.history.past) (a ∷ b ∷ [])
one_fills old mid a b first full goes =
    let here : course_with Full mid ≡ enter old.history.group (course_from old.history.past) a = ap (λ (going : Going). course_with going mid) (sym full) ∙ goes in
    sym (enter-stopped old.history.group (course_with Full mid) b refl) ∙ ap (λ (course : Course). enter old.history.group course b) here

pub same_setting : (old mid new : WorldView) → HasSameSetting old mid → HasSameSetting mid new → HasSameSetting old new
same_setting old mid new first second = record { group = second.group ∙ first.group; lines = second.lines ∙ first.lines }

-- the answer of a checker that stands as the journal leaves its group

as_journal : (k : ControlView) (g : Group) (past : List Entry) (n : ℕ) → k.group ≡ g → standing_in k ≡ standing_of g past → versions_in k ≡ value_at g past → revert_of k n ≡ revert_after g past n
as_journal k g past n same standing versions =
    let here : standing_in k ≡ standing_of k.group past = standing ∙ ap (λ (x : Group). standing_of x past) (sym same) in
    let there : versions_in k ≡ value_at k.group past = versions ∙ ap (λ (x : Group). value_at x past) (sym same) in
    (of_journal k past n here there).answer ∙ ap (λ (x : Group). revert_after x past n) same

pub answer_is : (k : ControlView) (w : WorldView) (n : ℕ) (answer : Revert) → k.group ≡ w.history.group → standing_in k ≡ standing_of w.history.group w.history.past → versions_in k ≡ value_at w.history.group w.history.past → answer ≡ revert_of k n → answer ≡ revert_after w.history.group w.history.past n
answer_is k w n answer same standing versions is = is ∙ as_journal k w.history.group w.history.past n same standing versions

-- the line that tells it
pub answer_told : (k : ControlView) (topo : Group) (w : WorldView) (n : ℕ) (answer : Revert) → topo ≡ k.group → k.group ≡ w.history.group → answer ≡ revert_after w.history.group w.history.past n
    → text_of ((codes "revert" ∷ topo.name ∷ answer_words answer) ∷ []) ≡ text_of (revert_words n (state_of w) ∷ [])
answer_told k topo w n answer of same is =
    ap (λ (x : Group). text_of ((codes "revert" ∷ x.name ∷ answer_words answer) ∷ [])) (of ∙ same)
    ∙ ap (λ (a : Revert). text_of ((codes "revert" ∷ w.history.group.name ∷ answer_words a) ∷ [])) is

-- and what it leads to
pub asked_goes : (w new : WorldView) (n : ℕ) (answer : Revert) (going : Going) → answer ≡ revert_after w.history.group w.history.past n → course_with going new ≡ enter_all w.history.group (course_from w.history.past) (asked_by answer) → course_with going new ≡ course_back n (state_of w)
asked_goes w new n answer going is goes = goes ∙ ap (λ (a : Revert). enter_all w.history.group (course_from w.history.past) (asked_by a)) is

pub idle_goes : (w : WorldView) (n : ℕ) (answer : Revert) → answer ≡ revert_after w.history.group w.history.past n → asked_by answer ≡ [] → course_with On w ≡ course_back n (state_of w)
idle_goes w n answer is idle = asked_goes w w n answer On is (sym (ap (enter_all w.history.group (course_from w.history.past)) idle))

pub none_asked : (answer : Revert) → ((rows : List Row) → answer ≡ Rows rows → ⊥) → asked_by answer ≡ []
none_asked (Rows rows) not = absurd (not rows refl)
none_asked (NoVersion latest) not = refl
none_asked Same not = refl
none_asked (TooMany rows) not = refl
