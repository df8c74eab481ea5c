-- All facts of commands, reports and agents, at each moment of a legal journal.
use Rattle.std.proofs.Common.{◌≡◌, ℕ, ◌<◌, List, [], ◌∷◌, Some, refl, inl, inr, arith}
use Rattle.std.specs.Prelude.{◌⊎◌}
use Rattle.st_net.specs.declared.entity.Entity.{Entity}
use Rattle.st_event.specs.declared.event.Event.{Event}
use Rattle.st_net.specs.declared.message.Report.{Report}
use Rattle.st_event.specs.declared.journal.Entry.{Entry}
use Rattle.st_net.specs.Groups.{Group}
use Rattle.st_net.specs.Numbered.{nth}
use Rattle.st_event.specs.Moments.{reports}
use Rattle.st_net.specs.Reports.{opening_report}
use Rattle.st_event.specs.Legal.{IsLegal, AtEach}
use Rattle.st_event.specs.Facts.{AgentsAgree}
use Rattle.st_event.proofs.Made.{IsMade, Makes, report_now, makes_last, names_none, numbered_made, numbered_sent}
use Rattle.st_event.proofs.Stamps.{sent_past, fence_small}
use Rattle.st_event.proofs.Shown.{made_is_true}
use Rattle.st_event.proofs.Later.{made_later, makes_next}
use Rattle.st_event.proofs.History.{sent_target, agents_in_step}

opening_made : (g : Group) (past : List Entry) (e : Entity) → IsMade g past (opening_report g e)
opening_made g [] e = refl
opening_made g (entry ∷ past) e = inl (opening_made g past e)

-- the report has a number from 1
pub record IsNumbered (r : Report) : Type 0 where
  pub some : 0 < r.number

numbered_last : (g : Group) (past : List Entry) (event : Event) (before : List Report) (n : ℕ) (r : Report) → ((nth before n ≡ Some r) ⊎ Makes event (report_now g past) r) → (nth before n ≡ Some r → IsNumbered r) → IsNumbered r
numbered_last g past event before n r (inl is) old = old is
numbered_last g past event before n r (inr makes) old = record { some = let next = makes_next g past event r makes in omega (arith, next) }

numbered : (g : Group) (past : List Entry) (n : ℕ) (r : Report) → nth (reports g past) n ≡ Some r → IsNumbered r
numbered g [] n r is = absurd (names_none n r is)
numbered g (entry ∷ past) n r is = numbered_last g past entry.event (reports g past) n r (makes_last entry.event (report_now g past) (reports g past) n r is) (numbered g past n r)

pub agents_agree : (g : Group) (past : List Entry) → IsLegal g past → AgentsAgree g past
agents_agree g past legal = record {
  sent = λ n c is. let sent = numbered_sent g past n c is in record { behind = sent_past g past c sent; values = sent_target g past c legal sent };
  fences = fence_small g past;
  opening = λ e. made_is_true g past (opening_report g e) (opening_made g past e);
  made = λ n r is. made_is_true g past r (numbered_made g past n r is);
  first = λ n r is. made_later g past (opening_report g r.entity) r (opening_made g past r.entity) (numbered_made g past n r is) refl (numbered g past n r is).some;
  later = λ m n o r x y own less. made_later g past o r (numbered_made g past m o x) (numbered_made g past n r y) own less;
  agents = λ e. agents_in_step g past e legal;
}

pub agree_throughout : (g : Group) (past : List Entry) → IsLegal g past → AtEach (AgentsAgree g) past
agree_throughout g [] legal = agents_agree g [] legal
agree_throughout g (entry ∷ past) legal = (agents_agree g (entry ∷ past) legal, agree_throughout g past legal.1)
