-- Rows that fit a group are in each table of it.
use Rattle.std.proofs.Common.{◌≡◌, ℕ, List, get_or, true, refl, arith}
use Rattle.std.specs.Prelude.{All}
use Rattle.st_net.specs.declared.entity.Entity.{Entity}
use Rattle.st_net.specs.declared.entity.Entity.TheVariants.{Device, Link}
use Rattle.st_net.specs.declared.entity.Row.{Row}
use Rattle.st_net.specs.declared.entity.Var.{Var}
use Rattle.st_net.specs.declared.entity.Var.TheVariants.{Power, Firmware, Config, Routing, LinkPower, Iface}
use Rattle.st_net.specs.Entities.{is_var_of}
use Rattle.st_net.specs.Groups.{Group, IsEntityOf}
use Rattle.st_net.specs.Ranges.{RowFits, is_in_range}
use Rattle.st_overlay.specs.Values.{Values, IsIn, IsRowIn, IsTableOf}

var_of_device : (v : Var) (i n : ℕ) → is_in_range (Device i) v n ≡ true → is_var_of (Device i) v ≡ true
var_of_device Power i n range = refl
var_of_device Firmware i n range = refl
var_of_device Config i n range = refl
var_of_device Routing i n range = refl
var_of_device LinkPower i n range = absurd cc
var_of_device Iface i n range = absurd cc

var_of_link : (v : Var) (i n : ℕ) → is_in_range (Link i) v n ≡ true → is_var_of (Link i) v ≡ true
var_of_link Power i n range = absurd cc
var_of_link Firmware i n range = absurd cc
var_of_link Config i n range = absurd cc
var_of_link Routing i n range = absurd cc
var_of_link LinkPower i n range = refl
var_of_link Iface i n range = refl

row_in : (g : Group) (t : Values) (e : Entity) (v : Var) (n : ℕ) → IsTableOf g t → IsEntityOf g e → is_in_range e v n ≡ true → IsIn t e × (is_var_of e v ≡ true)
row_in g t (Device i) v n of here range = (omega (arith, of.devices, here), var_of_device v i n range)
row_in g t (Link i) v n of here range = (omega (arith, of.links, here), var_of_link v i n range)

pub rows_in : (g : Group) (t : Values) (rows : List Row) → IsTableOf g t → All (RowFits g) rows → All (IsRowIn t) rows
rows_in g t rows of fit = λ k d lt. let row = get_or rows k d in let fits = fit k d lt in row_in g t row.entity row.var row.value of fits.entity fits.range
