-- Of no concern to callers: how the text of a group is made of what stands before its entries, of these, and of what stands behind them.
use Rattle.std.specs.Prelude.{ℕ, List, ◌++◌, codes, length, map}
use Rattle.std.specs.List.{range_with_len}
use Rattle.serde_json.specs.Data.{Data, string, Members, put}
use Rattle.serde_json.specs.Written.{compact_text}
use Rattle.st_net.specs.Groups.{Group}
use Rattle.st_player.specs.Json.{list_data, number_data}
use Rattle.st_player.specs.Pictures.{device_data, link_data, promise_data}

-- the parts but the devices
unfoldable pub with_other_parts : Group → Members → Members
with_other_parts g ms = put (codes "promises") (list_data (map (promise_data g) (range_with_len 0 (length g.promises))))
    (put (codes "links") (list_data (map (link_data g) (range_with_len 0 (length g.links))))
    (put (codes "name") (string g.name) ms))

-- how many entries stand before the page, how many there are, and how the group stands behind the first
unfoldable pub with_beginning : ℕ → ℕ → Data → Members → Members
with_beginning first total opening ms = put (codes "opening") opening
    (put (codes "total") (number_data total)
    (put (codes "first") (number_data first) ms))

-- the text up to the list of entries
unfoldable pub group_head : Group → List ℕ
group_head g = codes "{\"devices\":" ++ (compact_text (list_data (map (device_data g) (range_with_len 0 (length g.devices)))) ++ codes ",\"entries\":[")
