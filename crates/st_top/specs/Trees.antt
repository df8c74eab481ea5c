-- The documents of fat trees have room for all entries that their scripts can make.
use Rattle.std.specs.Prelude.{◌≡◌, None}
use Rattle.st_words.specs.declared.job.FatTree.{FatTree}
use Rattle.st_serial.specs.Most.{HasRoom}
use Rattle.st_serial.specs.Serial.{serial_full}
use Rattle.st_top.specs.Ways.{tree_doc}

-- the document of each fat tree has so much room, whatever its seed, and no event of it meets a full journal
abbrev pub TreesHaveRoom : Type 0
TreesHaveRoom = (tree : FatTree) → HasRoom (tree_doc tree)

abbrev pub TreesFit : Type 0
TreesFit = (tree : FatTree) → serial_full (tree_doc tree) ≡ None
