-- The stamps of a group's entities: none at the opening, those of a decision's entities, and that of an entity that is renewed.
use Rattle.std.proofs.Math.Seq.{take-append_seam}
use Rattle.std.proofs.Common.{◌≡◌, ℕ, zero, suc, ◌+◌, List, ◌++◌, length, get_or, set, take, refl, ap, ◌∙◌, subst, arith}
use Rattle.std.specs.Prelude.{slice_index_or, replicate, nat_lt, Bool, true, false, not, ◌&&◌, ◌==◌, ◌≢◌, if◌then◌else◌, Result, Ok, Err, IfOk, Some}
use Rattle.std.proofs.lemmas.Bool.Decides.{nat_tests}
use Rattle.std.proofs.lemmas.List.{get_or_default, get_or-set_same, get_or-set_other}
use mathlib.Core.Path.{fun_ext}
use Rattle.st_net.specs.declared.entity.Entity.{Entity}
use Rattle.st_net.specs.declared.entity.Entity.TheVariants.{Device, Link}
use Rattle.st_net.specs.declared.entity.Row.{Row}
use Rattle.st_net.specs.declared.entity.Var.{Var}
use Rattle.st_net.specs.declared.message.Report.{Report}
use Rattle.st_net.specs.Entities.{is_same_entity, is_same_vals}
use Rattle.st_net.specs.Groups.{Group, IsEntityOf}
use Rattle.st_net.specs.Merge.{alters, vals_in}
use Rattle.st_net.specs.Sets.{Marks, MarksOf, is_in, is_of}
use Rattle.st_net.specs.InOrder.{entities_of, entity_count, place_in, stamp_in}
use Rattle.st_net.proofs.Tests.{same_entity, equal_numbers, less, less_is}
use Rattle.st_net.proofs.SetLaws.{in_no_set}
use Rattle.st_net.proofs.EntityLoops.{AreSetBefore, set_all}
use Rattle.st_event.specs.Standing.{stamp_altered, stamp_renewed}

pub ok_map : {X E : Type 0} (P Q : X → Type 0) (r : Result X E) → ((x : X) → P x → Q x) → IfOk r P → IfOk r Q
ok_map P Q (Ok x) f h = f x h
ok_map P Q (Err e) f h = h

zeros : (n i : ℕ) → ◌≡◌ {A = ℕ} (slice_index_or (replicate n 0) i 0) 0
zeros zero i = refl
zeros (suc n) zero = refl
zeros (suc n) (suc i) = zeros n i

by_choice : (b : Bool) (n : ℕ) → n ≡ 0 → (if b then n else 0) ≡ 0
by_choice true n is = is
by_choice false n is = refl

-- with stamps of 0 no entity has another
pub unstamped : (g : Group) (stamps : List ℕ) (n : ℕ) → stamps ≡ replicate n 0 → (e : Entity) → stamp_in g stamps e ≡ 0
unstamped g stamps n zeroed (Device i) = rw zeroed (by_choice (nat_lt i (length g.devices)) (slice_index_or (replicate n 0) i 0) (zeros n i))
unstamped g stamps n zeroed (Link i) = rw zeroed (zeros n (length g.devices + i))

-- the stamps after a merge
pub stamped_is : (g : Group) (s : Marks) (target : Entity → Var → ℕ) (rows : List Row) (n : ℕ) (old new : List ℕ) → is_in s ≡ alters g target rows → stamp_in g new ≡ (λ e. if is_in s e then n else stamp_in g old e) → stamp_in g new ≡ stamp_altered g target rows n (stamp_in g old)
stamped_is g s target rows n old new is stamps = stamps ∙ ap (λ (f : Entity → Bool). λ (e : Entity). if f e then n else stamp_in g old e) is

-- what was lent as a slice is written back whole
pub whole : (n : ℕ) (new rest : List ℕ) → n ≡ length new → take n (new ++ rest) ≡ new
whole n new rest is = rw is (take-append_seam new rest)

-- the stamp of an entity of the group stands in its place
stamp_there : (g : Group) (stamps : List ℕ) (e : Entity) (d : ℕ) → IsEntityOf g e → length stamps ≡ entity_count g → get_or stamps (place_in g e) d ≡ stamp_in g stamps e
stamp_there g stamps (Device i) d here count = rw (less i (length g.devices) here) (get_or_default stamps i d 0 (omega arith))
stamp_there g stamps (Link i) d here count = get_or_default stamps (length g.devices + i) d 0 (omega arith)

pub stamp_at : (g : Group) (stamps : List ℕ) (e : Entity) (place d : ℕ) → place ≡ place_in g e → IsEntityOf g e → length stamps ≡ entity_count g → get_or stamps place d ≡ stamp_in g stamps e
stamp_at g stamps e place d is here count = ap (λ (i : ℕ). get_or stamps i d) is ∙ stamp_there g stamps e d here count

differ : (i j : ℕ) → (i == j) ≡ false → j ≢ i
differ i j other = grind (arith, nat_tests, other)

-- the stamps once the one in the place of an entity is replaced
pub stamp_in-set : (g : Group) (stamps : List ℕ) (at e : Entity) (n : ℕ) → IsEntityOf g at → length stamps ≡ entity_count g → stamp_in g (set stamps (place_in g at) n) e ≡ (if is_same_entity at e then n else stamp_in g stamps e)
stamp_in-set g stamps (Device i) (Device j) n here count = by_number (i == j) refl
  where
    by_number : (same : Bool) → (i == j) ≡ same → (if nat_lt j (length g.devices) then slice_index_or (set stamps i n) j 0 else 0) ≡ (if same then n else stamp_in g stamps (Device j))
    by_number true is = subst (λ (k : ℕ). stamp_in g (set stamps i n) (Device k) ≡ n) (equal_numbers i j is) (rw (less i (length g.devices) here) (get_or-set_same stamps i n 0 (omega arith)))
    by_number false other = rw (get_or-set_other stamps i j n 0 (differ i j other)) refl
stamp_in-set g stamps (Device i) (Link j) n here count = get_or-set_other stamps i (length g.devices + j) n 0 (omega arith)
stamp_in-set g stamps (Link i) (Device j) n here count = among_devices (nat_lt j (length g.devices)) refl
  where
    among_devices : (low : Bool) → nat_lt j (length g.devices) ≡ low → (if low then slice_index_or (set stamps (length g.devices + i) n) j 0 else 0) ≡ (if low then slice_index_or stamps j 0 else 0)
    among_devices true is = let low = less_is j (length g.devices) is in get_or-set_other stamps (length g.devices + i) j n 0 (omega (arith, low))
    among_devices false is = refl
stamp_in-set g stamps (Link i) (Link j) n here count = by_number (i == j) refl
  where
    by_number : (same : Bool) → (i == j) ≡ same → slice_index_or (set stamps (length g.devices + i) n) (length g.devices + j) 0 ≡ (if same then n else slice_index_or stamps (length g.devices + j) 0)
    by_number true is = subst (λ (k : ℕ). slice_index_or (set stamps (length g.devices + i) n) (length g.devices + k) 0 ≡ n) (equal_numbers i j is) (get_or-set_same stamps (length g.devices + i) n 0 (omega arith))
    by_number false other = get_or-set_other stamps (length g.devices + i) (length g.devices + j) n 0 (λ same. differ i j other (omega (arith, same)))

-- the same by the place where the entity stands
pub stamp_put : (g : Group) (stamps : List ℕ) (place : ℕ) (at : Entity) (n : ℕ) → IsEntityOf g at → place_in g at ≡ place → length stamps ≡ entity_count g → (e : Entity) → stamp_in g (set stamps place n) e ≡ (if is_same_entity at e then n else stamp_in g stamps e)
stamp_put g stamps place at n here is count e = rw (← is) (stamp_in-set g stamps at e n here count)

-- once all entities were looked at, those of the set are stamped and all else is as it was
own_case : (own inside : Bool) (n was : ℕ) → (own ≡ false → inside ≡ false) → (if own && inside then n else was) ≡ (if inside then n else was)
own_case true inside n was none = refl
own_case false inside n was none = rw (none refl) refl

pub stamped_all : (g : Group) (s : Marks) (place n : ℕ) (old new : List ℕ) → MarksOf g s → place ≡ length (entities_of g) → AreSetBefore g place (is_in s) n (stamp_in g old) (stamp_in g new) → stamp_in g new ≡ (λ e. if is_in s e then n else stamp_in g old e)
stamped_all g s place n old new marks all known = fun_ext (λ e.
    set_all g place (is_in s) n (stamp_in g old) (stamp_in g new) all known e
    ∙ own_case (is_of g e) (is_in s e) n (stamp_in g old e) (in_no_set g s e marks))

-- the report shows that the command of an entity's stamp was carried out, and other values than the target's
abbrev pub is_other_at : Group → (Entity → Var → ℕ) → Report → (Entity → ℕ) → Entity → Bool
is_other_at g target r stamp e = not r.busy && r.fence == stamp e && not (is_same_vals r.vals (vals_in g target e))

other_there : (g : Group) (target : Entity → Var → ℕ) (r : Report) (stamp : Entity → ℕ) (e : Entity) (b : Bool) → is_other_at g target r stamp r.entity ≡ b → is_same_entity r.entity e ≡ true → is_other_at g target r stamp e ≡ b
other_there g target r stamp e b is same = subst (λ (at : Entity). is_other_at g target r stamp at ≡ b) (same_entity r.entity e same) is

renew_case : (same a b c : Bool) (n o : ℕ) → (same ≡ true → (a && b && c) ≡ true) → (if same then n else o) ≡ (if same && a && b && c then n else o)
renew_case true a b c n o other = rw (other refl) refl
renew_case false a b c n o other = refl

keep_case : (same a b c : Bool) (n o : ℕ) → (same ≡ true → (a && b && c) ≡ false) → o ≡ (if same && a && b && c then n else o)
keep_case true a b c n o none = rw (none refl) refl
keep_case false a b c n o none = refl

-- a report that renews its entity leaves it with this stamp, and all others as they were
pub renewed_is : (g : Group) (target : Entity → Var → ℕ) (r : Report) (n : ℕ) (stamps : List ℕ) → IsEntityOf g r.entity → length stamps ≡ entity_count g → is_other_at g target r (stamp_in g stamps) r.entity ≡ true → stamp_in g (set stamps (place_in g r.entity) n) ≡ stamp_renewed g target (Some r) n (stamp_in g stamps)
renewed_is g target r n stamps here count other = fun_ext (λ e.
    stamp_in-set g stamps r.entity e n here count
    ∙ renew_case (is_same_entity r.entity e) (not r.busy) (r.fence == stamp_in g stamps e) (not (is_same_vals r.vals (vals_in g target e))) n (stamp_in g stamps e) (other_there g target r (stamp_in g stamps) e true other))

-- and one that does not leaves all stamps
pub unrenewed_is : (g : Group) (target : Entity → Var → ℕ) (r : Report) (n : ℕ) (stamps : List ℕ) → is_other_at g target r (stamp_in g stamps) r.entity ≡ false → stamp_in g stamps ≡ stamp_renewed g target (Some r) n (stamp_in g stamps)
unrenewed_is g target r n stamps none = fun_ext (λ e. keep_case (is_same_entity r.entity e) (not r.busy) (r.fence == stamp_in g stamps e) (not (is_same_vals r.vals (vals_in g target e))) n (stamp_in g stamps e) (other_there g target r (stamp_in g stamps) e false none))
