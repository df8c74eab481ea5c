-- Each pass stands in each room, what all had made is taken in, and the logs of the first are kept in their order.
use Rattle.std.proofs.Common.{◌≡◌, ℕ, ◌<◌, List, ◌∷◌, ◌++◌, [], length, get_or, ap, sym, subst, ◌∙◌, arith, length-append}
use Rattle.std.proofs.lemmas.List.Sums.{sum_by_push}
use Rattle.st_event.specs.declared.act.Log.{Log}
use Rattle.st_line.specs.Lines.{Reached}
use Rattle.st_service.specs.declared.close.Shut.{Shut}
use Rattle.st_service.specs.declared.line.Batch.{Batch}
use Rattle.st_service.specs.Closed.{Stands, entered}
use Rattle.st_service.specs.Lines.{flat}
use Rattle.st_service.specs.Passes.{Holder}
use Rattle.st_service.proofs.ClosingLaws.{AreLogs, logs_more, logs_kept, mapped_at, mapped_long, next_at, next_low, next_all, none_left}
use Rattle.st_service.proofs.Mines.{items_more}
use Rattle.st_service.proofs.close.hand_in_all.Goals as goal

pub loop-pass-preserved-in-Continue-1 : goal.loop-pass-preserved-in-Continue-1
loop-pass-preserved-in-Continue-1 g c =
    let passes = c.args.passes.items in
    let ys = c.loop-pass.yielded in
    let pass = c.in-Some.pass in
    let rest = c.next.new.self.rest.items in
    let shut = c.args.shut.now in
    let inv = c.loop-pass.invariant in
    let cur = c.loop-pass.shut in
    let long : length cur ≡ length shut = mapped_long (λ (t : Shut g.row.J.Denot g.row.H.Denot g.J.Naming). t.group) cur shut inv.groups in
    let next : passes ≡ ys ++ pass ∷ rest = inv.all ∙ ap (λ (l : List Holder). ys ++ l) c.in-Some.ensures.steps.0 in
    let here : pass ≡ get_or passes (length ys) pass = sym (next_at passes ys rest pass pass next) in
    let low : length ys < length passes = next_low passes ys rest pass next in
    let number : c.number-number.result ≡ length ys = c.number-number.ensures ∙ (ap (λ (h : Holder). h.number) here ∙ c.requires.numbers (length ys) pass low) in
    let rooms : length pass.mines ≡ length shut = c.hand_in-entries.ensures.lengths ∙ (ap (λ (h : Holder). length h.fronts) here ∙ c.requires.rooms (length ys) pass low) in
    let stands : (k : ℕ) (d : Shut g.row.J.Denot g.row.H.Denot g.J.Naming) → k < length shut → Stands pass (flat (get_or shut k d).line.log) k =
    λ k d lk. subst (λ (r : Reached Batch). Stands pass (flat r.log) k) (mapped_at (λ (t : Shut g.row.J.Denot g.row.H.Denot g.J.Naming). t.line) cur shut k d inv.lines lk) (c.hand_in-entries.ensures.stands k d (omega (arith, lk, long))) in
    let logs = c.loop-pass.logs.items in
    let log : Log = record { app = record { 0 = c.number-number.result }; entries = c.hand_in-entries.result } in
    let more : AreLogs c.args.apps (ys ++ pass ∷ []) (logs ++ log ∷ []) = logs_more c.args.apps ys logs pass log (omega (arith, c.if-number-apps.true, number)) number c.hand_in-entries.ensures.log inv.logs in
    record {
      all = next_all passes ys c.loop-pass.pass-iterator.rest.items rest pass inv.all c.in-Some.ensures.steps.0;
      groups = c.hand_in-entries.ensures.groups ∙ inv.groups;
      lines = c.hand_in-entries.ensures.lines ∙ inv.lines;
      stands = λ n p k d ln lk. items_more (λ (m : ℕ) (h : Holder). Stands h (flat (get_or shut k d).line.log) k) ys pass (λ m q less. inv.stands m q k d less lk) (stands k d lk) n p ln;
      lengths = λ n p ln. items_more (λ (m : ℕ) (h : Holder). length h.mines ≡ length shut) ys pass (λ m q less. inv.lengths m q less) rooms n p ln;
      parts = omega (arith, c.hand_in-entries.ensures.parts, inv.parts, length-append ys (pass ∷ []));
      amount = omega (arith, c.hand_in-entries.ensures.amount, inv.amount, sum_by_push entered ys pass);
      logs = subst (AreLogs c.args.apps (ys ++ pass ∷ [])) (sym c.in_ok-push.ensures.items) more;
    }

pub loop-pass-preserved : goal.loop-pass-preserved
loop-pass-preserved g c =
    let passes = c.args.passes.items in
    let ys = c.loop-pass.yielded in
    let pass = c.in-Some.pass in
    let rest = c.next.new.self.rest.items in
    let shut = c.args.shut.now in
    let inv = c.loop-pass.invariant in
    let cur = c.loop-pass.shut in
    let long : length cur ≡ length shut = mapped_long (λ (t : Shut g.row.J.Denot g.row.H.Denot g.J.Naming). t.group) cur shut inv.groups in
    let next : passes ≡ ys ++ pass ∷ rest = inv.all ∙ ap (λ (l : List Holder). ys ++ l) c.in-Some.ensures.steps.0 in
    let here : pass ≡ get_or passes (length ys) pass = sym (next_at passes ys rest pass pass next) in
    let low : length ys < length passes = next_low passes ys rest pass next in
    let number : c.number-number.result ≡ length ys = c.number-number.ensures ∙ (ap (λ (h : Holder). h.number) here ∙ c.requires.numbers (length ys) pass low) in
    let rooms : length pass.mines ≡ length shut = c.hand_in-entries.ensures.lengths ∙ (ap (λ (h : Holder). length h.fronts) here ∙ c.requires.rooms (length ys) pass low) in
    let stands : (k : ℕ) (d : Shut g.row.J.Denot g.row.H.Denot g.J.Naming) → k < length shut → Stands pass (flat (get_or shut k d).line.log) k =
    λ k d lk. subst (λ (r : Reached Batch). Stands pass (flat r.log) k) (mapped_at (λ (t : Shut g.row.J.Denot g.row.H.Denot g.J.Naming). t.line) cur shut k d inv.lines lk) (c.hand_in-entries.ensures.stands k d (omega (arith, lk, long))) in
    record {
      all = next_all passes ys c.loop-pass.pass-iterator.rest.items rest pass inv.all c.in-Some.ensures.steps.0;
      groups = c.hand_in-entries.ensures.groups ∙ inv.groups;
      lines = c.hand_in-entries.ensures.lines ∙ inv.lines;
      stands = λ n p k d ln lk. items_more (λ (m : ℕ) (h : Holder). Stands h (flat (get_or shut k d).line.log) k) ys pass (λ m q less. inv.stands m q k d less lk) (stands k d lk) n p ln;
      lengths = λ n p ln. items_more (λ (m : ℕ) (h : Holder). length h.mines ≡ length shut) ys pass (λ m q less. inv.lengths m q less) rooms n p ln;
      parts = omega (arith, c.hand_in-entries.ensures.parts, inv.parts, length-append ys (pass ∷ []));
      amount = omega (arith, c.hand_in-entries.ensures.amount, inv.amount, sum_by_push entered ys pass);
      logs = logs_kept c.args.apps ys c.loop-pass.logs.items pass (omega (arith, c.if-number-apps.false, number)) inv.logs;
    }

pub hand_in-entries-requires-clause-rooms : goal.hand_in-entries-requires-clause-rooms
hand_in-entries-requires-clause-rooms g c =
    let passes = c.args.passes.items in
    let ys = c.loop-pass.yielded in
    let pass = c.in-Some.pass in
    let rest = c.next.new.self.rest.items in
    let shut = c.args.shut.now in
    let inv = c.loop-pass.invariant in
    let next : passes ≡ ys ++ pass ∷ rest = inv.all ∙ ap (λ (l : List Holder). ys ++ l) c.in-Some.ensures.steps.0 in
    let here : pass ≡ get_or passes (length ys) pass = sym (next_at passes ys rest pass pass next) in
    let low : length ys < length passes = next_low passes ys rest pass next in
    ap (λ (h : Holder). length h.fronts) here ∙ (c.requires.rooms (length ys) pass low ∙ sym (mapped_long (λ (t : Shut g.row.J.Denot g.row.H.Denot g.J.Naming). t.group) c.loop-pass.shut shut inv.groups))

pub hand_in-entries-requires-clause-groups : goal.hand_in-entries-requires-clause-groups
hand_in-entries-requires-clause-groups g c =
    let shut = c.args.shut.now in
    let cur = c.loop-pass.shut in
    let inv = c.loop-pass.invariant in
    let group = λ (t : Shut g.row.J.Denot g.row.H.Denot g.J.Naming). t.group in
    λ k d lt. let low : k < length shut = omega (arith, lt, mapped_long group cur shut inv.groups) in mapped_at group cur shut k d inv.groups low ∙ c.requires.groups k d low

pub returns-clause-stands : goal.returns-clause-stands
returns-clause-stands g c =
    let passes = c.args.passes.items in
    let ys = c.loop-pass.yielded in
    let rest = c.loop-pass.pass-iterator.rest.items in
    let inv = c.loop-pass.invariant in
    let none : length rest ≡ 0 = omega (arith, c.in-None.ensures.steps.0) in
    let done : ys ≡ passes = none_left passes ys rest inv.all none in
    let shut = c.args.shut.now in
    subst (λ (hs : List Holder). (n : ℕ) (p : Holder) (k : ℕ) (d : Shut g.row.J.Denot g.row.H.Denot g.J.Naming) → n < length hs → k < length shut → Stands (get_or hs n p) (flat (get_or shut k d).line.log) k) done inv.stands

pub returns-clause-lengths : goal.returns-clause-lengths
returns-clause-lengths g c =
    let passes = c.args.passes.items in
    let ys = c.loop-pass.yielded in
    let rest = c.loop-pass.pass-iterator.rest.items in
    let inv = c.loop-pass.invariant in
    let none : length rest ≡ 0 = omega (arith, c.in-None.ensures.steps.0) in
    let done : ys ≡ passes = none_left passes ys rest inv.all none in
    subst (λ (hs : List Holder). (n : ℕ) (p : Holder) → n < length hs → length (get_or hs n p).mines ≡ length c.args.shut.now) done inv.lengths

pub returns-clause-parts : goal.returns-clause-parts
returns-clause-parts g c =
    let passes = c.args.passes.items in
    let ys = c.loop-pass.yielded in
    let rest = c.loop-pass.pass-iterator.rest.items in
    let inv = c.loop-pass.invariant in
    let none : length rest ≡ 0 = omega (arith, c.in-None.ensures.steps.0) in
    let done : ys ≡ passes = none_left passes ys rest inv.all none in
    omega (arith, inv.parts, ap length done)

pub returns-clause-logs : goal.returns-clause-logs
returns-clause-logs g c =
    let passes = c.args.passes.items in
    let ys = c.loop-pass.yielded in
    let rest = c.loop-pass.pass-iterator.rest.items in
    let inv = c.loop-pass.invariant in
    let none : length rest ≡ 0 = omega (arith, c.in-None.ensures.steps.0) in
    let done : ys ≡ passes = none_left passes ys rest inv.all none in
    inv.logs.above (omega (arith, c.requires.apps, ap length done))

pub returns-clause-logged : goal.returns-clause-logged
returns-clause-logged g c =
    let passes = c.args.passes.items in
    let ys = c.loop-pass.yielded in
    let rest = c.loop-pass.pass-iterator.rest.items in
    let inv = c.loop-pass.invariant in
    let none : length rest ≡ 0 = omega (arith, c.in-None.ensures.steps.0) in
    let done : ys ≡ passes = none_left passes ys rest inv.all none in
    let many : length c.loop-pass.logs.items ≡ c.args.apps = inv.logs.above (omega (arith, c.requires.apps, ap length done)) in
    λ n l p lt. subst (λ (hs : List Holder). ((get_or c.loop-pass.logs.items n l).app.0 ≡ n) × ((get_or c.loop-pass.logs.items n l).entries ≡ (get_or hs n p).log)) done (inv.logs.logged n l p (omega (arith, lt, many)))
