-- Two groups with the same network and the same promises, whatever their names and what devices open with: what is judged of the one holds
-- of the other.
use Rattle.std.specs.Prelude.{◌≡◌, length}
use Rattle.st_net.specs.Groups.{Group}

pub record HasSameNetwork (g h : Group) : Type 0 where
  pub devices : length g.devices ≡ length h.devices
  pub links : g.links ≡ h.links
  pub promises : g.promises ≡ h.promises
