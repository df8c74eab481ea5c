-- What a withdrawal comes to, over what a checker keeps.
use Rattle.std.proofs.Common.{◌≡◌, ℕ, ◌+◌, ◌<◌, List, [], ◌∷◌, ◌++◌, length, take, get_or, set, Option, Some, None, refl, sym, ap, ◌∙◌, subst, arith}
use Rattle.std.specs.Prelude.{◌≢◌, Bool, true, false, ◌==◌, nat_le, All, if◌then◌else◌}
use Rattle.std.proofs.lemmas.List.{append-nil, take_more}
use Rattle.std.proofs.lemmas.List.Elements.{All-nil, All-cons}
use mathlib.Core.Path.{fun_ext}
use Rattle.st_net.specs.declared.entity.Entity.{Entity}
use Rattle.st_net.specs.declared.entity.Entity.TheVariants.{Device, Link}
use Rattle.st_net.specs.declared.entity.Row.{Row}
use Rattle.st_net.specs.declared.entity.Var.{Var}
use Rattle.st_net.specs.Entities.{is_same_entity, is_var_of, value_of, vars_of}
use Rattle.st_net.specs.Groups.{Group, IsEntityOf}
use Rattle.st_net.specs.Merge.{alters, target_with}
use Rattle.st_net.specs.InOrder.{entity_count, place_in, stamp_in}
use Rattle.st_event.specs.declared.event.Event.TheVariants.{Withdraw}
use Rattle.st_event.specs.declared.reply.Lack.{Lack}
use Rattle.st_event.specs.declared.reply.Reply.TheVariants.{Withdrawn, Kept}
use Rattle.st_event.specs.Judge.{lack_at}
use Rattle.st_event.specs.Replies.{governing, kept_or_withdrawn, row_to, rows_back}
use Rattle.st_event.specs.Standing.{stamp_altered}
use Rattle.st_event.proofs.Withdrawals.{alters_no_other, alters_own}
use Rattle.st_overlay.specs.Values.{Values, IsIn, IsRowIn, IsTableOf, value_in}
use Rattle.st_store.specs.Changes.{value_at}
use Rattle.st_store.specs.Store.{StoreView, Withdraws}
use Rattle.st_control.specs.Control.{ControlView, Moves, standing_in}
use Rattle.st_control.specs.Verdict.{IsLatest}
use Rattle.st_control.specs.Withdrawals.{rows_if, withdrawal_due}
use Rattle.st_net.proofs.Tests.{equal_numbers, equal_self, same_entity}
use Rattle.st_control.proofs.StampLaws.{stamp_in-set}

-- the rows of one variable more

abbrev one_back : Entity → (Var → ℕ) → (Var → ℕ) → Var → List Row
one_back e value goal v = if value v == goal v then [] else row_to e v value ∷ []

first_back : (e : Entity) (value : Var → ℕ) (v : Var) (same : Bool) (rest more : List Row) → (if same then rest ++ more else row_to e v value ∷ (rest ++ more)) ≡ (if same then rest else row_to e v value ∷ rest) ++ more
first_back e value v true rest more = refl
first_back e value v false rest more = refl

rows_back-push : (e : Entity) (value goal : Var → ℕ) (vs : List Var) (v : Var) → rows_back e value goal (vs ++ v ∷ []) ≡ rows_back e value goal vs ++ one_back e value goal v
rows_back-push e value goal [] v = refl
rows_back-push e value goal (w ∷ ws) v =
    ap (λ (rest : List Row). if value w == goal w then rest else row_to e w value ∷ rest) (rows_back-push e value goal ws v)
    ∙ first_back e value w (value w == goal w) (rows_back e value goal ws) (one_back e value goal v)

pub rows_next : (e : Entity) (value goal : Var → ℕ) (vs : List Var) (i : ℕ) (v d : Var) (before after : List Row) → i < length vs → v ≡ get_or vs i d → before ≡ rows_back e value goal (take i vs) → after ≡ before ++ one_back e value goal v → after ≡ rows_back e value goal (take (i + 1) vs)
rows_next e value goal vs i v d before after within is was added =
    added
    ∙ ap (λ (rows : List Row). rows ++ one_back e value goal v) was
    ∙ sym (rows_back-push e value goal (take i vs) v)
    ∙ ap (λ (x : Var). rows_back e value goal (take i vs ++ x ∷ [])) is
    ∙ ap (rows_back e value goal) (sym (take_more vs i d within))

test_same : (e : Entity) (value goal : Var → ℕ) (v : Var) (b : Bool) → (value v == goal v) ≡ b → one_back e value goal v ≡ (if b then [] else row_to e v value ∷ [])
test_same e value goal v b is = rw is refl

apart : (n m : ℕ) → n ≢ m → (n == m) ≡ false
apart n m differs = by (n == m) refl
  where
    by : (b : Bool) → (n == m) ≡ b → b ≡ false
    by true same = absurd (differs (equal_numbers n m same))
    by false other = refl

-- a variable that differs, and one that does not
pub rows_pushed : (e : Entity) (value goal : Var → ℕ) (vs : List Var) (i : ℕ) (v d : Var) (before after : List Row) (n m : ℕ) → i < length vs → v ≡ get_or vs i d → before ≡ rows_back e value goal (take i vs) → n ≡ value v → m ≡ goal v → n ≢ m → after ≡ before ++ record { entity = e; var = v; value = n } ∷ [] → after ≡ rows_back e value goal (take (i + 1) vs)
rows_pushed e value goal vs i v d before after n m within is was here there differs added =
    let test : (value v == goal v) ≡ false = rw (← here, ← there) (apart n m differs) in
    let row : after ≡ before ++ row_to e v value ∷ [] = added ∙ ap (λ (k : ℕ). before ++ record { entity = e; var = v; value = k } ∷ []) here in
    rows_next e value goal vs i v d before after within is was (row ∙ ap (λ (rows : List Row). before ++ rows) (sym (test_same e value goal v false test)))

pub rows_passed : (e : Entity) (value goal : Var → ℕ) (vs : List Var) (i : ℕ) (v d : Var) (before : List Row) (n m : ℕ) → i < length vs → v ≡ get_or vs i d → before ≡ rows_back e value goal (take i vs) → n ≡ value v → m ≡ goal v → n ≡ m → before ≡ rows_back e value goal (take (i + 1) vs)
rows_passed e value goal vs i v d before n m within is was here there same =
    let test : (value v == goal v) ≡ true = rw (← here, ← there, same) (equal_self m) in
    rows_next e value goal vs i v d before before within is was (sym (append-nil before) ∙ ap (λ (rows : List Row). before ++ rows) (sym (test_same e value goal v true test)))

-- the rows are such as the target has

AreOf : Entity → List Var → Type 0
AreOf e [] = Unit {0}
AreOf e (v ∷ vs) = (is_var_of e v ≡ true) × AreOf e vs

own_variables : (e : Entity) → AreOf e (vars_of e)
unfolding AreOf
own_variables (Device i) = (refl, (refl, (refl, (refl, tt))))
own_variables (Link i) = (refl, (refl, tt))

one_more : (t : Values) (e : Entity) (v : Var) (value : Var → ℕ) (same : Bool) (rest : List Row) → IsIn t e → is_var_of e v ≡ true → All (IsRowIn t) rest → All (IsRowIn t) (if same then rest else row_to e v value ∷ rest)
one_more t e v value true rest here own all = all
one_more t e v value false rest here own all = All-cons (IsRowIn t) (row_to e v value) rest (here, own) all

rows_in : (t : Values) (e : Entity) (value goal : Var → ℕ) (vs : List Var) → IsIn t e → AreOf e vs → All (IsRowIn t) (rows_back e value goal vs)
unfolding AreOf
rows_in t e value goal [] here own = All-nil (IsRowIn t)
rows_in t e value goal (v ∷ vs) here own = one_more t e v value (value v == goal v) (rows_back e value goal vs) here own.0 (rows_in t e value goal vs here own.1)

pub entity_in : (g : Group) (t : Values) (e : Entity) → IsTableOf g t → IsEntityOf g e → IsIn t e
entity_in g t (Device i) of here = omega (arith, of.devices, here)
entity_in g t (Link i) of here = omega (arith, of.links, here)

-- what is due

rows_due : (o : Option Lack) (rows due : List Row) → Some due ≡ rows_if o rows → due ≡ rows
rows_due None rows due is = cc
rows_due (Some lack) [] due is = cc
rows_due (Some lack) (row ∷ rows) due is = cc

reply_due : (o : Option Lack) (rows due : List Row) (n : ℕ) → Some due ≡ rows_if o rows → Withdrawn (n + 1) due ≡ kept_or_withdrawn o rows n
reply_due None rows due n is = cc
reply_due (Some lack) [] due n is = cc
reply_due (Some lack) (row ∷ rows) due n is = let same : due ≡ row ∷ rows = cc in rw same refl

first_due : (o : Option Lack) (rows due : List Row) → Some due ≡ rows_if o rows → (row : Row) × (rest : List Row) × (rows ≡ row ∷ rest)
first_due None rows due is = absurd cc
first_due (Some lack) [] due is = absurd cc
first_due (Some lack) (row ∷ rest) due is = (row, rest, refl)

none_due : (o : Option Lack) (rows : List Row) (n : ℕ) → None ≡ rows_if o rows → Kept ≡ kept_or_withdrawn o rows n
none_due None rows n is = refl
none_due (Some lack) [] n is = refl
none_due (Some lack) (row ∷ rows) n is = cc

abbrev lack_of : ControlView → Entity → Option Lack
lack_of k e = lack_at k.group (standing_in k).observed (standing_in k).target e (governing e ((standing_in k).observed e).vals ((standing_in k).target e))

abbrev back_of : ControlView → Entity → List Row
back_of k e = rows_back e (value_of e ((standing_in k).observed e).vals) ((standing_in k).target e) (vars_of e)

pub due_in : (k : ControlView) (e : Entity) (rows : List Row) → Some rows ≡ withdrawal_due k e → IsIn k.store.target e → All (IsRowIn k.store.target) rows
due_in k e rows due here = subst (All (IsRowIn k.store.target)) (sym (rows_due (lack_of k e) (back_of k e) rows due)) (rows_in k.store.target e (value_of e ((standing_in k).observed e).vals) ((standing_in k).target e) (vars_of e) here (own_variables e))

-- nothing is done where nothing is due
pub kept_moves : (k : ControlView) (n : ℕ) (e : Entity) → None ≡ withdrawal_due k e → Moves k k n (Withdraw e) Kept
kept_moves k n e none = record {
  reply = λ w. none_due (lack_of k e) (back_of k e) k.store.version none;
  standing = λ w. refl;
  group = refl;
  versions = refl;
}

-- the stamps: the entity alone gets another
stamped_one : (k : ControlView) (n : ℕ) (e other : Entity) (rows : List Row) (same : Bool) → is_same_entity e other ≡ same → Some rows ≡ withdrawal_due k e → (if same then n else stamp_in k.group k.stamps other) ≡ (if alters k.group (value_in k.store.target) rows other then n else stamp_in k.group k.stamps other)
stamped_one k n e other rows true same due =
    let first = first_due (lack_of k e) (back_of k e) rows due in
    let here : e ≡ other = same_entity e other same in
    let altered : alters k.group (value_in k.store.target) rows other ≡ true =
    subst (λ (x : Entity). alters k.group (value_in k.store.target) rows x ≡ true) here
    (ap (λ (rs : List Row). alters k.group (value_in k.store.target) rs e) (rows_due (lack_of k e) (back_of k e) rows due)
    ∙ alters_own k.group e (value_in k.store.target) (value_of e ((standing_in k).observed e).vals) first.0 first.1 first.2) in
    rw altered refl
stamped_one k n e other rows false apart due =
    let unaltered : alters k.group (value_in k.store.target) rows other ≡ false =
    ap (λ (rs : List Row). alters k.group (value_in k.store.target) rs other) (rows_due (lack_of k e) (back_of k e) rows due)
    ∙ alters_no_other k.group e other (value_in k.store.target) (value_of e ((standing_in k).observed e).vals) apart in
    rw unaltered refl

pub stamped_back : (k : ControlView) (n place : ℕ) (e : Entity) (rows : List Row) → IsEntityOf k.group e → place ≡ place_in k.group e → length k.stamps ≡ entity_count k.group → Some rows ≡ withdrawal_due k e → stamp_in k.group (set k.stamps place n) ≡ stamp_altered k.group (value_in k.store.target) rows n (stamp_in k.group k.stamps)
stamped_back k n place e rows here is count due = fun_ext (λ other.
    ap (λ (i : ℕ). stamp_in k.group (set k.stamps i n) other) is
    ∙ stamp_in-set k.group k.stamps e other n here count
    ∙ stamped_one k n e other rows (is_same_entity e other) refl due)

-- the rows are merged as the next version
pub withdraw_moves : (k : ControlView) (new : StoreView) (stamps : List ℕ) (n version : ℕ) (e : Entity) (rows : List Row) → Some rows ≡ withdrawal_due k e → IsLatest k.store → Withdraws k.store new rows → version ≡ new.version → stamp_in k.group stamps ≡ stamp_altered k.group (value_in k.store.target) rows n (stamp_in k.group k.stamps) → Moves k (record k { store = new; stamps = stamps }) n (Withdraw e) (Withdrawn version rows)
withdraw_moves k new stamps n version e rows due latest withdraws is stamped = record {
  reply = λ w. ap (λ (v : ℕ). Withdrawn v rows) (is ∙ withdraws.version) ∙ reply_due (lack_of k e) (back_of k e) rows k.store.version due;
  standing = λ w. rw (withdraws.pending, withdraws.tickets, withdraws.decided, withdraws.version, withdraws.target, withdraws.observed, stamped) refl;
  group = refl;
  versions = withdraws.versions ∙ ap (λ (last : Entity → Var → ℕ). λ (v : ℕ). if nat_le v k.store.version then value_at k.store.versions v else target_with last rows) latest;
}
