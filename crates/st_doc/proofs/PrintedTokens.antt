-- The words that documents alone have: each can stand in a line, and is read as what it was printed for.
use Rattle.std.proofs.Common.{◌≡◌, ℕ, List, refl, arith}
use Rattle.std.specs.Prelude.{Bool, true, false, ◌==◌, Some, None, Ok, codes}
use Rattle.std.proofs.lemmas.Bool.Decides.{nat_tests}
use Rattle.st_text.specs.Words.{IsWord}
use Rattle.st_net.specs.declared.entity.Entity.{Entity}
use Rattle.st_net.specs.Names.{is_name_byte, is_name, is_among}
use Rattle.st_net.specs.Faults.{device_names}
use Rattle.st_wire.specs.declared.line.WireKind.{WireKind}
use Rattle.st_wire.specs.declared.line.WireKind.TheVariants.{Command, Report}
use Rattle.st_token.specs.Places.{cut_at}
use Rattle.st_token.proofs.PrintedTokens.{each, name_bytes, literal, uncut, entity_again}
use Rattle.st_grammar.specs.Draft.{GroupDraft, has_health}
use Rattle.st_grammar.specs.Spelling.{device_in, entity_named, is_tor_word, end_in, untold_in, wire_kind_in}
use Rattle.st_doc.specs.Printed.{tor_word, wire_kind_word}

no_slash : (b : ℕ) → is_name_byte b ≡ true → (b == 47) ≡ false
no_slash b e = grind (arith, nat_tests)

pub tor_is_word : (b : Bool) → IsWord (tor_word b)
tor_is_word true = record { filled = refl; visible = (refl, (refl, (refl, tt))) }
tor_is_word false = record { filled = refl; visible = (refl, (refl, (refl, (refl, (refl, (refl, tt)))))) }

pub kind_is_word : (k : WireKind) → IsWord (wire_kind_word k)
kind_is_word Command = literal (codes "command") refl refl
kind_is_word Report = literal (codes "report") refl refl

slash_uncut : (name : List ℕ) → is_name name ≡ true → cut_at 47 name ≡ None
slash_uncut name e = uncut 47 name (each (λ b. is_name_byte b ≡ true) (λ b. (b == 47) ≡ false) no_slash name (name_bytes name e))

pub device_again : (g : GroupDraft) (name : List ℕ) → is_name name ≡ true → is_among name (device_names g.devices) ≡ true → device_in g name ≡ Ok name
unfolding device_in
device_again g name e known = rw (e, known) refl

pub end_again : (g : GroupDraft) (name : List ℕ) → is_name name ≡ true → is_among name (device_names g.devices) ≡ true → end_in g name ≡ Ok name
end_again g name e known = rw (slash_uncut name e) (device_again g name e known)

pub untold_again : (g : GroupDraft) (name : List ℕ) (entity : Entity) → is_name name ≡ true → entity_named g name ≡ Some entity → has_health g entity ≡ false → untold_in g name ≡ Ok entity
unfolding untold_in
untold_again g name entity e at fresh = rw (entity_again (entity_named g) name entity e at, fresh) refl

pub tor_again : (b : Bool) → is_tor_word (tor_word b) ≡ Ok b
tor_again true = refl
tor_again false = refl

pub kind_again : (k : WireKind) → wire_kind_in (wire_kind_word k) ≡ Ok k
kind_again Command = refl
kind_again Report = refl
