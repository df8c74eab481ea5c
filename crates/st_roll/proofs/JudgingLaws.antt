-- What is left up while rows are carried out, by the sets that are kept, and the rows of devices that fit.
use Rattle.std.proofs.Common.{◌≡◌, ℕ, ◌<◌, ◌^◌, List, length, Option, sym, ap, subst, ◌∙◌}
use Rattle.std.specs.Prelude.{Bool, not, ◌&&◌, All}
use Rattle.std.proofs.lemmas.List.Elements.{All-map, All-weaker}
use Rattle.st_net.specs.declared.entity.Entity.{Entity}
use Rattle.st_net.specs.declared.entity.Row.{Row}
use Rattle.st_net.specs.declared.entity.Var.{Var}
use Rattle.st_net.specs.declared.promise.Broken.{Broken}
use Rattle.st_net.specs.Demands.{first_broken_of}
use Rattle.st_net.specs.Groups.{Group}
use Rattle.st_net.specs.Merge.{alters, without_altered}
use Rattle.st_net.specs.Ranges.{RowFits}
use Rattle.st_net.specs.Sets.{Marks, MarksOf, is_in}
use Rattle.st_net.proofs.Tests.{less}
use Rattle.st_promise.specs.Book.{IsBookOf}
use Rattle.st_control.specs.Control.{ControlView}
use Rattle.st_roll.specs.declared.judging.Grounds.{Grounds}
use Rattle.st_roll.specs.Firmware.{firmware_row, firmware_rows}
use Rattle.st_roll.specs.Judging.{AreGroundsOf}

pub left_is : (g : Group) (up : Entity → Bool) (target : Entity → Var → ℕ) (rows : List Row) (sure copy changed after : Marks) → is_in sure ≡ up → copy ≡ sure → is_in changed ≡ alters g target rows → is_in after ≡ (λ e. is_in copy e && not (is_in changed e)) → is_in after ≡ without_altered g up target rows
left_is g up target rows sure copy changed after up_is copy_is altered members =
    let of_marks : Marks → Entity → Bool = λ s e. is_in s e && not (is_in changed e) in
    let of_up : (Entity → Bool) → Entity → Bool = λ f e. f e && not (is_in changed e) in
    let of_altered : (Entity → Bool) → Entity → Bool = λ a e. up e && not (a e) in
    members ∙ ap of_marks copy_is ∙ ap of_up up_is ∙ ap of_altered altered

pub first_is : (g h : Group) (sure after : Marks) (up left : Entity → Bool) (o : Option Broken) → o ≡ first_broken_of h (is_in sure) (is_in after) → h ≡ g → is_in sure ≡ up → is_in after ≡ left → o ≡ first_broken_of g up left
first_is g h sure after up left o is same up_is left_is =
    is
    ∙ ap (λ (x : Group). first_broken_of x (is_in sure) (is_in after)) same
    ∙ ap (λ (f : Entity → Bool). first_broken_of g f (is_in after)) up_is
    ∙ ap (λ (f : Entity → Bool). first_broken_of g up f) left_is

pub rows_fit : (g : Group) (f : ℕ) (devices : List ℕ) → f < 2 ^ 32 → All (λ d. d < length g.devices) devices → All (RowFits g) (firmware_rows f devices)
rows_fit g f devices small low = All-map (RowFits g) (firmware_row f) devices (All-weaker (λ d. d < length g.devices) (λ d. RowFits g (firmware_row f d)) (λ d here. record { entity = here; range = less f (2 ^ 32) small }) devices low)

-- another book of the same group serves as well
pub still_grounds : (k : ControlView) (old new : Grounds) → AreGroundsOf k old → new.sure ≡ old.sure → new.book.of ≡ old.book.of → AreGroundsOf k new
still_grounds k old new is sure book = record {
  marks = subst (MarksOf k.group) (sym sure) is.marks;
  sure = ap is_in sure ∙ is.sure;
  book = subst (IsBookOf k.group) (sym book) is.book;
}
