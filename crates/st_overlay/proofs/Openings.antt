-- What a device and a link open with, and the table that stands so.
use Rattle.std.proofs.Common.{◌≡◌, ℕ, zero, suc, List, [], ◌∷◌, length, get_or, map, take, refl, ap, ◌∙◌, arith}
use Rattle.std.proofs.lemmas.List.{take_all}
use mathlib.Core.Path.{fun_ext}
use Rattle.st_net.specs.declared.entity.Vals.{Vals}
use Rattle.st_net.specs.declared.entity.Entity.{Entity}
use Rattle.st_net.specs.declared.entity.Entity.TheVariants.{Device, Link}
use Rattle.st_net.specs.declared.topo.DeviceOpening.{DeviceOpening}
use Rattle.st_net.specs.declared.topo.LinkOpening.{LinkOpening}
use Rattle.st_net.specs.Entities.{value_of}
use Rattle.st_net.specs.Groups.{Group, opening_of, no_device, no_link}
use Rattle.st_net.specs.Merge.{merge_of, vals_in}
use Rattle.st_overlay.specs.Values.{Values, vals_at, value_in, IsTableOf}

-- the values that a device and a link open with
abbrev pub device_vals : DeviceOpening → Vals
device_vals d = d.vals

abbrev pub link_vals : LinkOpening → Vals
link_vals l = l.vals

-- the values of each device and of each link are those that it opens with
pub record IsOpened (g : Group) (t : Values) : Type 0 where
  pub devices : t.devices ≡ map device_vals g.devices
  pub links : t.links ≡ map link_vals g.links

-- so far as the links go that a loop looked at, and it looked at all
pub opened_whole : (g : Group) (t : Values) (i : ℕ) → t.devices ≡ map device_vals g.devices → t.links ≡ map link_vals (take i g.links) → length g.links ≡ i → IsOpened g t
opened_whole g t i devices links all = record { devices = devices; links = links ∙ ap (map link_vals) (take_all i g.links (omega (arith, all))) }

get_or-map_all : {X Y : Type 0} (f : X → Y) (xs : List X) (i : ℕ) (d : X) → get_or (map f xs) i (f d) ≡ f (get_or xs i d)
get_or-map_all f [] i d = refl
get_or-map_all f (x ∷ xs) zero d = refl
get_or-map_all f (x ∷ xs) (suc i) d = get_or-map_all f xs i d

vals_opened : (g : Group) (t : Values) (e : Entity) → IsOpened g t → vals_at t e ≡ opening_of g e
vals_opened g t (Device i) is = rw is.devices (get_or-map_all device_vals g.devices i no_device)
vals_opened g t (Link i) is = rw is.links (get_or-map_all link_vals g.links i no_link)

pub opened_vals : (g : Group) (t : Values) → IsOpened g t → vals_at t ≡ opening_of g
opened_vals g t is = fun_ext (λ e. vals_opened g t e is)

pub opened_values : (g : Group) (t : Values) → IsOpened g t → value_in t ≡ merge_of g []
opened_values g t is = fun_ext (λ e. fun_ext (λ v. ap (λ (vals : Vals). value_of e vals v) (vals_opened g t e is)))

length-map_all : {X Y : Type 0} (f : X → Y) (xs : List X) → length (map f xs) ≡ length xs
length-map_all f [] = refl
length-map_all f (x ∷ xs) = ap suc (length-map_all f xs)

vals_kept : (g : Group) (t : Values) (e : Entity) → vals_at t e ≡ opening_of g e → vals_in g (value_in t) e ≡ vals_at t e
vals_kept g t (Device i) is = refl
vals_kept g t (Link i) is = rw is refl

pub opened_table : (g : Group) (t : Values) → IsOpened g t → IsTableOf g t
opened_table g t is = record {
  devices = rw is.devices (length-map_all device_vals g.devices);
  links = rw is.links (length-map_all link_vals g.links);
  values = λ e. vals_kept g t e (vals_opened g t e is);
}
