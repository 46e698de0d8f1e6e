-- The keys of machine files and key sheets.
use Rattle.std.specs.Prelude.{codes, ℕ, List}
use Rattle.kd_sheet.specs.declared.key.Key.{Key}
use Rattle.kd_sheet.specs.declared.key.Key.TheVariants as keys

abbrev pub key_name : Key → List ℕ
key_name keys.Version = codes "version"
key_name keys.Model = codes "model"
key_name keys.Reflector = codes "reflector"
key_name keys.Slots = codes "slots"
key_name keys.Rings = codes "rings"
key_name keys.Letters = codes "letters"
key_name keys.Cables = codes "cables"
key_name keys.Pins = codes "pins"
key_name keys.Bars = codes "bars"
key_name keys.Day = codes "day"
key_name keys.Wheels = codes "wheels"
key_name keys.Window = codes "window"
key_name keys.Plugs = codes "plugs"
key_name keys.Groups = codes "groups"
key_name keys.Rows = codes "rows"
key_name keys.List = codes "list"
