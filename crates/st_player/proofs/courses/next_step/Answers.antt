use Rattle.std.proofs.Common.{◌≡◌, ◌∙◌, ◌∷◌, ap, subst, sym}
use Rattle.serde_json.specs.View.{members_view, view}
use Rattle.st_event.specs.History.{History, with_entry}
use Rattle.st_event.specs.Legal.{IsNext}
use Rattle.st_player.specs.Snapshots.{shown_of}
use Rattle.st_player.specs.Steps.{shown_in}
use Rattle.st_player.specs.Touched.{Touches}
use Rattle.st_player.proofs.PlayLemmas.{entry_told, shown_is}
use Rattle.st_player.proofs.courses.next_step.Goals as goal

pub enter-requires : goal.enter-requires
enter-requires c = c.requires.next

pub touched_by-requires : goal.touched_by-requires
touched_by-requires c = subst (λ (k : History). IsNext k.group k.past c.args.entry.now) (sym c.world.ensures) c.requires.next

pub tell_entry-requires : goal.tell_entry-requires
tell_entry-requires c =
    let h = c.args.playback in
    let e = c.args.entry.now in
    let touched = c.in_ok-touched.touched in
    let here : Touches h (with_entry h e) touched = subst (λ (k : History). Touches k (with_entry k e) touched) c.world.ensures c.in_ok-touched.ensures in
    (h, subst (λ (k : History). Touches h k touched) (sym c.in_ok-behind.ensures) here, c.requires.before)

pub returns-clause-playback : goal.returns-clause-playback
returns-clause-playback c = c.in_ok-behind.ensures

pub returns-clause-shown : goal.returns-clause-shown
returns-clause-shown c = c.in_ok-telling.ensures.shown

pub returns-clause-told : goal.returns-clause-told
returns-clause-told c =
    let h = c.args.playback in
    let e = c.args.entry.now in
    let telling = c.in_ok-telling.telling in
    let new : shown_in telling.shown ≡ shown_of h.group (e ∷ h.past) =
    shown_is c.in_ok-behind.behind telling.shown c.in_ok-telling.ensures.shown ∙ ap (λ (b : History). shown_of b.group b.past) c.in_ok-behind.ensures in
    entry_told h.group c.args.apps.now h.past e (shown_in c.args.before) (shown_in telling.shown) (members_view c.in_ok-words.words) (view telling.told)
    (shown_is h c.args.before c.requires.before) new c.in_ok-words.ensures c.in_ok-telling.ensures.told
