use Rattle.std.proofs.Common.{◌≡◌, ◌∙◌, ◌+◌, ◌++◌, ◌∷◌, ℕ, List, refl, take, drop, ap, ap₂, sym, subst}
use Rattle.std.specs.Prelude.{◌==◌, reverse}
use Rattle.serde_json.specs.View.{view}
use Rattle.st_event.specs.declared.journal.Entry.{Entry}
use Rattle.st_event.specs.History.{History, with_entry}
use Rattle.st_event.specs.Legal.{IsNext}
use Rattle.st_player.specs.Entries.{entry_data}
use Rattle.st_player.specs.Joined.{IsLeftOut, IsWritten, WritesFitting}
use Rattle.st_player.specs.Pictures.{entries_data, fitting, size_of}
use Rattle.st_player.proofs.JoinLemmas.{joins_all, joins_more, joins_none}
use Rattle.st_player.proofs.PlayLemmas.{begins, fits_more, fits_no_more, next_is, one_more}
use Rattle.st_player.proofs.courses.write_entries.Goals as goal

pub next_step-requires : goal.next_step-requires
next_step-requires c =
    let h = c.args.begun.playback in
    let e = c.index-entries-i.result in
    record {
      next = subst (λ (k : History). IsNext k.group k.past e) (sym c.loop-i.invariant.0) (next_is h.group h.past c.args.entries.now c.loop-i.i e c.loop-i-test.true c.index-entries-i.is c.requires.legal);
      before = c.loop-i.invariant.1;
      apps = c.requires.apps;
    }

pub loop-i-init : goal.loop-i-init
loop-i-init c =
    let h = c.args.begun.playback in (
      begins h c.args.entries.now,
      c.requires.shown,
      joins_none _ _ c.args.out.now c.args.out.now refl refl,
    )

pub returns-in-None-clause-text : goal.returns-in-None-clause-text
returns-in-None-clause-text c =
    let h = c.args.begun.playback in
    let e = c.index-entries-i.result in
    let i = c.loop-i.i in
    let apps = c.args.apps.now in
    let entries = c.args.entries.now in
    let past = reverse (take i entries) ++ h.past in
    let told = view c.in_ok-step.step.told in
    let out : IsLeftOut c.loop-i.out c.write_fitting.new.out told c.loop-i.left = subst (WritesFitting c.loop-i.out c.write_fitting.new.out told (i == 0) c.loop-i.left) c.in-None.is c.in_ok-rest.ensures in
    let is : told ≡ entry_data h.group apps past e = c.in_ok-step.ensures.told ∙ ap (λ (b : History). entry_data b.group apps b.past e) c.loop-i.invariant.0 in
    let none = fits_no_more (size_of told) c.loop-i.left h.group apps past entries i e c.loop-i-test.true c.index-entries-i.is (ap size_of is) out.larger in
    out.text_is ∙ (joins_all _ _ i c.args.out.now c.loop-i.out none c.loop-i.invariant.2).0

pub returns-in-None-clause-shown : goal.returns-in-None-clause-shown
returns-in-None-clause-shown c =
    let h = c.args.begun.playback in
    let e = c.index-entries-i.result in
    let i = c.loop-i.i in
    let apps = c.args.apps.now in
    let entries = c.args.entries.now in
    let past = reverse (take i entries) ++ h.past in
    let told = view c.in_ok-step.step.told in
    let out : IsLeftOut c.loop-i.out c.write_fitting.new.out told c.loop-i.left = subst (WritesFitting c.loop-i.out c.write_fitting.new.out told (i == 0) c.loop-i.left) c.in-None.is c.in_ok-rest.ensures in
    let is : told ≡ entry_data h.group apps past e = c.in_ok-step.ensures.told ∙ ap (λ (b : History). entry_data b.group apps b.past e) c.loop-i.invariant.0 in
    let none = fits_no_more (size_of told) c.loop-i.left h.group apps past entries i e c.loop-i-test.true c.index-entries-i.is (ap size_of is) out.larger in
    (joins_all _ _ i c.args.out.now c.loop-i.out none c.loop-i.invariant.2).1

pub loop-i-preserved : goal.loop-i-preserved
loop-i-preserved c =
    let h = c.args.begun.playback in
    let e = c.index-entries-i.result in
    let i = c.loop-i.i in
    let apps = c.args.apps.now in
    let entries = c.args.entries.now in
    let past = reverse (take i entries) ++ h.past in
    let step = c.in_ok-step.step in
    let left = c.loop-i.left in
    let told = view step.told in
    let later = drop (i + 1) entries in
    let more = one_more h.past entries i e c.loop-i-test.true c.index-entries-i.is in
    let put : IsWritten c.loop-i.out c.write_fitting.new.out told (i == 0) left c.in-Some.rest = subst (WritesFitting c.loop-i.out c.write_fitting.new.out told (i == 0) left) c.in-Some.is c.in_ok-rest.ensures in
    let is : told ≡ entry_data h.group apps past e = c.in_ok-step.ensures.told ∙ ap (λ (b : History). entry_data b.group apps b.past e) c.loop-i.invariant.0 in
    let next = fits_more told (size_of told) left h.group apps past entries i e c.loop-i-test.true c.index-entries-i.is is refl put.fits
    ∙ ap₂ (λ (room : ℕ) (es : List Entry). told ∷ fitting room (entries_data h.group apps es later)) (sym put.left_is) (sym more) in (
      c.in_ok-step.ensures.playback ∙ (ap (λ (b : History). with_entry b e) c.loop-i.invariant.0 ∙ ap (λ (es : List Entry). record { group = h.group; past = es }) (sym more)),
      c.in_ok-step.ensures.shown,
      joins_more _ _ _ told i (i == 0) c.args.out.now c.loop-i.out c.write_fitting.new.out next refl put.text_is put.shown c.loop-i.invariant.2,
    )
