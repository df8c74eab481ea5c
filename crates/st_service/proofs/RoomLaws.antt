-- What a work makes of a room.
use Rattle.std.proofs.Common.{◌≡◌, ℕ, ◌≤◌, ◌<◌, ◌+◌, ◌^◌, Bool, true, false, List, [], ◌∷◌, ◌++◌, length, ap, sym, subst, ◌∙◌, arith, length-append}
use Rattle.std.specs.Prelude.{All, Some, Result, Ok, Err, IfOk, OnErr}
use Rattle.std.proofs.lemmas.List.Elements.{All-pop}
use mathlib.Core.List.{IsPrefix}
use Rattle.st_net.specs.declared.entity.Row.{Row}
use Rattle.st_net.specs.Groups.{Group, IsSound}
use Rattle.st_event.specs.declared.journal.Entry.{Entry}
use Rattle.st_event.specs.History.{History}
use Rattle.st_net.specs.Ranges.{RowFits}
use Rattle.st_event.specs.declared.journal.TheConstants.{MAX_ENTRIES}
use Rattle.st_event.specs.Legal.{IsLegal}
use Rattle.st_event.specs.Proposals.{overlays}
use Rattle.st_event.proofs.Accepting.{legal_within}
use Rattle.st_event.proofs.Ranges.{all_in_range}
use Rattle.st_event.proofs.Versions.{versions_few}
use Rattle.st_world.specs.World.{WorldView, IsBeginning}
use Rattle.st_world.specs.Rounds.{Course, is_full, IsPartOf}
use Rattle.st_world.specs.declared.world.rounds.Going.{Going}
use Rattle.st_world.proofs.RunLaws.{beginning-self}
use Rattle.std.specs.Borrow.{Bor}
use Rattle.st_control.specs.Basis.{JudgedView}
use Rattle.st_board.specs.Published.{Published}
use Rattle.st_event.proofs.Prefixes.{prefix_self, prefix_trans}
use Rattle.st_service.specs.declared.work.Work.{Work}
use Rattle.st_service.specs.declared.work.Work.TheVariants.{Commit}
use Rattle.st_service.specs.Rooms.{Adds, IsRoom, RoomView}
use Rattle.st_service.specs.Shares.{work_share}
use Rattle.st_service.specs.Works.{WorkFits, course_at}
use Rattle.st_service.proofs.CourseLaws.{Went, lays, work-ran, ran_part, went_adds}

-- the course of a work from where a world stands
abbrev pub course_in : ℕ → Work → WorldView → Course
course_in number work w = course_at number work w.history.group w.lines w.history.past

-- whatever was answered, a part of the work's course was entered
pub went_part : {E : Type 0} (r : Result Going E) (number : ℕ) (work : Work) (old new : WorldView)
    → IfOk r (λ going. course_in number work old ≡ record { past = new.history.past; stopped = is_full going }) → OnErr r (IsPartOf old new (course_in number work old))
    → WorkFits work old.history.group → IsBeginning new.history.past (course_in number work old).past
went_part (Ok going) number work old new ok err fits = subst (λ (course : Course). IsBeginning new.history.past course.past) (sym ok) (beginning-self new.history.past)
went_part (Err e) number work old new ok err fits = err.part

pub work_went : {E : Type 0} (r : Result Going E) (number : ℕ) (work : Work) (old new : WorldView)
    → IfOk r (λ going. course_in number work old ≡ record { past = new.history.past; stopped = is_full going }) → OnErr r (IsPartOf old new (course_in number work old))
    → WorkFits work old.history.group → Went (lays work) number (work_share work old.history.group old.lines) old.history.past new.history.past
work_went (Ok going) number work old new ok err fits =
    let ran = work-ran work number old.history.group old.lines old.history.past fits in
    ran_part (lays work) number (work_share work old.history.group old.lines) old.history.past new.history.past (course_in number work old)
    (ran.more, ap (λ (course : Course). course.past) (sym ok) ∙ ran.all) (subst (λ (course : Course). IsBeginning new.history.past course.past) (sym ok) (beginning-self new.history.past)) ran
work_went (Err e) number work old new ok err fits =
    ran_part (lays work) number (work_share work old.history.group old.lines) old.history.past new.history.past (course_in number work old)
    err.began err.part (work-ran work number old.history.group old.lines old.history.past fits)

-- the same, where contracts see the room by its fields
pub went_from : {E : Type 0} (r : Result Going E) (number : ℕ) (work : Work) (old new : WorldView) (b : Published) (spent : Bool) (room : RoomView) → record { history = old.history; lines = old.lines; published = b; spent = spent } ≡ room
    → IfOk r (λ going. course_in number work old ≡ record { past = new.history.past; stopped = is_full going }) → OnErr r (IsPartOf old new (course_in number work old))
    → WorkFits work room.history.group → Went (lays work) number (work_share work old.history.group old.lines) old.history.past new.history.past
went_from r number work old new b spent room view ok err fits = work_went r number work old new ok err (subst (λ (v : RoomView). WorkFits work v.history.group) (sym view) fits)

pub adds_from : {E : Type 0} (r : Result Going E) (number : ℕ) (work : Work) (old new : WorldView) (b : Published) (spent : Bool) (room : RoomView) → record { history = old.history; lines = old.lines; published = b; spent = spent } ≡ room
    → IfOk r (λ going. course_in number work old ≡ record { past = new.history.past; stopped = is_full going }) → OnErr r (IsPartOf old new (course_in number work old))
    → WorkFits work room.history.group → Adds number (work_share work room.history.group room.lines) room.history.past new.history.past
adds_from r number work old new b spent room view ok err fits = subst (λ (v : RoomView). Adds number (work_share work v.history.group v.lines) v.history.past new.history.past) view
    (went_adds (lays work) number (work_share work old.history.group old.lines) old.history.past new.history.past (went_from r number work old new b spent room view ok err fits))

-- where as much was accepted as before, a room stands
pub room_stands : (old new : History) (b : Published) (spent : Bool) → new.group ≡ old.group → overlays new.past ≡ overlays old.past → IsRoom old b spent → IsRoom new b spent
room_stands old new b spent group same r = record {
  group = r.group ∙ sym group;
  going = r.going;
  begun = subst (λ ps. IsPrefix b.proposals ps) (sym same) r.begun;
  whole = λ e. r.whole e ∙ sym same;
}

-- what was overlaid more was published
pub room_publishes : (old new : History) (b c : Published) (spent : Bool) (laid rows : List Row) → new.group ≡ old.group → overlays new.past ≡ overlays old.past ++ laid ∷ [] → rows ≡ laid → c ≡ record b { proposals = b.proposals ++ rows ∷ [] } → spent ≡ false → IsRoom old b spent → IsRoom new c spent
room_publishes old new b c spent laid rows group more are is open_still r =
    let same : c.proposals ≡ overlays new.past = ap (λ (p : Published). p.proposals) is ∙ (ap (λ ps. ps ++ rows ∷ []) (r.whole open_still) ∙ (ap (λ rs. overlays old.past ++ rs ∷ []) are ∙ sym more)) in
    record {
      group = ap (λ (p : Published). p.group) is ∙ (r.group ∙ sym group);
      going = ap (λ (p : Published). p.ended) is ∙ r.going;
      begun = subst (λ ps. IsPrefix c.proposals ps) same (prefix_self c.proposals);
      whole = λ e. same;
    }

-- a room whose publication was refused is a spent room
pub room_spends : (old new : History) (b c : Published) (spent : Bool) (laid : List Row) → new.group ≡ old.group → overlays new.past ≡ overlays old.past ++ laid ∷ [] → c ≡ b → IsRoom old b spent → IsRoom new c true
room_spends old new b c spent laid group more is r = rw is (record {
  group = r.group ∙ sym group;
  going = r.going;
  begun = prefix_trans b.proposals (overlays old.past) (overlays new.past) r.begun (laid ∷ [], sym more);
  whole = λ e. absurd cc;
})

-- behind a publication that was refused the journal has more overlays than the board
pub refused_more : (old new : History) (b : Published) (spent : Bool) (laid : List Row) → overlays new.past ≡ overlays old.past ++ laid ∷ [] → spent ≡ false → IsRoom old b spent → length b.proposals < length (overlays new.past)
refused_more old new b spent laid more open_still r = omega (arith, ap length (r.whole open_still), ap length more, length-append (overlays old.past) (laid ∷ []))

-- a course that met a full journal left it full
pub work_full : {E : Type 0} (r : Result Going E) (number : ℕ) (work : Work) (old new : WorldView)
    → IfOk r (λ going. course_in number work old ≡ record { past = new.history.past; stopped = is_full going }) → WorkFits work old.history.group → IsLegal new.history.group new.history.past
    → IfOk r (λ going. is_full going ≡ true → length new.history.past ≡ MAX_ENTRIES)
work_full (Ok going) number work old new ok fits legal =
    let ran = work-ran work number old.history.group old.lines old.history.past fits in
    let within = legal_within new.history.group new.history.past legal in
    λ e. let full = ran.full (ap (λ (course : Course). course.stopped) ok ∙ e) in omega (arith, within, full, ap (λ (course : Course). length course.past) ok)
work_full (Err e) number work old new ok fits legal = tt

-- what is published fits: in a legal journal of a sound group all that was overlaid does
pub rows_fit : (g h : Group) (before new : List Entry) (laid rows : List Row) → h ≡ g → rows ≡ laid → overlays new ≡ overlays before ++ laid ∷ [] → IsSound g → IsLegal g new → All (RowFits h) rows
rows_fit g h before new laid rows same is more sound legal =
    let fits = (All-pop (All (RowFits g)) (overlays new) (overlays before) (Some laid) more (all_in_range g new sound legal).overlaid).1 in
    subst (λ (k : Group). All (RowFits k) rows) (sym same) (subst (All (RowFits g)) (sym is) fits)

-- a commit that was refused entered nothing
pub commit_part : {T E : Type 0} (r : Result T E) (number : ℕ) (work : Work) (judged : Bor JudgedView) (old new : WorldView) → work ≡ Commit judged → OnErr r (new.history ≡ old.history) → OnErr r (IsPartOf old new (course_in number work old))
commit_part (Ok x) number work judged old new is err = tt
commit_part (Err e) number work judged old new is err =
    let ran = work-ran (Commit judged) number old.history.group old.lines old.history.past tt in
    let part : IsPartOf old new (course_in number (Commit judged) old) = record {
      began = ([], ap (λ (h : History). h.past) err);
      part = (ran.more, ran.all ∙ ap (λ (h : History). ran.more ++ h.past) (sym err));
    } in
    subst (λ (w : Work). IsPartOf old new (course_in number w old)) (sym is) part

-- there are no more versions than entries, so there is a number for the next one
pub next_few : (g : Group) (old new : History) (b : Published) (spent : Bool) (laid : List Row) → overlays new.past ≡ overlays old.past ++ laid ∷ [] → IsLegal g new.past → spent ≡ false → IsRoom old b spent → length b.proposals + 1 < 2 ^ 32
next_few g old new b spent laid more legal open_still r =
    let few : length (overlays new.past) ≤ length new.past = versions_few new.past in
    let within = legal_within g new.past legal in
    omega (arith, few, within, ap length (r.whole open_still), ap length more, length-append (overlays old.past) (laid ∷ []))
