-- The entities of a group as a set, and sets of them.
use Rattle.std.proofs.Common.{◌≡◌, length, refl, sym, ◌∙◌, arith}
use Rattle.std.specs.Prelude.{Bool, true, false, ◌&&◌}
use Rattle.std.proofs.lemmas.List.{get_or_past}
use mathlib.Core.Path.{fun_ext}
use Rattle.st_net.specs.declared.entity.Entity.{Entity}
use Rattle.st_net.specs.declared.entity.Entity.TheVariants.{Device, Link}
use Rattle.st_net.specs.Groups.{Group, IsEntityOf}
use Rattle.st_net.specs.Sets.{Marks, MarksOf, HasSameMarks, is_of, is_in}
use Rattle.st_net.proofs.Tests.{less_is, not_less}

-- a number that is not less than another is at least that
pub own_is : (g : Group) (e : Entity) → is_of g e ≡ true → IsEntityOf g e
own_is g (Device i) is = less_is i (length g.devices) is
own_is g (Link i) is = less_is i (length g.links) is

-- no set of a group has an entity that the group does not have
pub in_no_set : (g : Group) (s : Marks) (e : Entity) → MarksOf g s → is_of g e ≡ false → is_in s e ≡ false
in_no_set g s (Device i) marks beyond = let far = not_less i (length g.devices) beyond in let n = marks.devices in get_or_past s.devices i false (omega arith)
in_no_set g s (Link i) marks beyond = let far = not_less i (length g.links) beyond in let n = marks.links in get_or_past s.links i false (omega arith)

pub in_own : (g : Group) (s : Marks) (e : Entity) → MarksOf g s → is_in s e ≡ true → is_of g e ≡ true
in_own g s e marks inside = by_own (is_of g e) refl
  where
    by_own : (own : Bool) → is_of g e ≡ own → own ≡ true
    by_own true is = refl
    by_own false is = let none : is_in s e ≡ false = in_no_set g s e marks is in cc

-- a test that only entities of the group pass is one of these alone
both_ways : (own p here : Bool) → own ≡ here → (here ≡ false → p ≡ false) → (own && p) ≡ p
both_ways true p true is none = refl
both_ways false p false is none = sym (none refl)
both_ways true p false is none = cc
both_ways false p true is none = cc

pub own_at_once : (g : Group) (p : Entity → Bool) (e : Entity) → (is_of g e ≡ false → p e ≡ false) → (is_of g e && p e) ≡ p e
own_at_once g p e none = both_ways (is_of g e) (p e) (is_of g e) refl none

pub own_only : (g : Group) (p : Entity → Bool) → ((e : Entity) → is_of g e ≡ false → p e ≡ false) → (λ e. is_of g e && p e) ≡ p
own_only g p none = fun_ext (λ e. own_at_once g p e (none e))

-- as many marks as before are a mark for each entity
pub marks_kept : (g : Group) (old new : Marks) → MarksOf g old → HasSameMarks old new → MarksOf g new
marks_kept g old new marks same = record { devices = same.devices ∙ marks.devices; links = same.links ∙ marks.links }

-- the marks of two sets of a group are as many
pub same_marks : (g : Group) (old new : Marks) → MarksOf g old → MarksOf g new → HasSameMarks old new
same_marks g old new was is = record { devices = is.devices ∙ sym was.devices; links = is.links ∙ sym was.links }
