-- The words for variables and locks, in documents, journals and reports, and those that name a variable and set one.
use Rattle.std.specs.Prelude.{ℕ, List, codes}
use Rattle.st_text.specs.Printed as words
use Rattle.st_net.specs.declared.entity.Prio.{Prio}
use Rattle.st_net.specs.declared.entity.Prio.TheVariants.{Low, High}
use Rattle.st_net.specs.declared.entity.Var.{Var}
use Rattle.st_net.specs.declared.entity.Var.TheVariants.{Power, Firmware, Config, Routing, LinkPower, Iface}

abbrev pub var_word : Var → List ℕ
var_word Power = codes "power"
var_word Firmware = codes "firmware"
var_word Config = codes "config"
var_word Routing = codes "routing"
var_word LinkPower = codes "power"
var_word Iface = codes "iface"

abbrev pub prio_word : Prio → List ℕ
prio_word Low = codes "low"
prio_word High = codes "high"

-- VAR=NUMBER, NAME.VAR=NUMBER and NAME.VAR
abbrev pub value_word : Var → ℕ → List ℕ
value_word var value = words.value_word (var_word var) value

abbrev pub assignment_word : List ℕ → Var → ℕ → List ℕ
assignment_word name var value = words.assignment_word name (var_word var) value

abbrev pub variable_word : List ℕ → Var → List ℕ
variable_word name var = words.variable_word name (var_word var)
