use Rattle.{kd_tables.specs.{Tables.letters_of, Text.is_capital}, std.proofs.Common.{length, take, true, ◌≡◌}}
use Rattle.std.specs.List.{list_all}
use Rattle.kd_sheet.proofs.values.letters.capital_letters.Given as goal

-- the bytes so far are capital letters, and `letters` has their letters
abbrev pub invariant-loop-byte : goal.invariant-loop-byte
invariant-loop-byte g l = record {
  count : length l.letters.items ≡ l.byte-index;
  capitals : list_all is_capital (take l.byte-index l.text) ≡ true;
  letters : l.letters.items ≡ letters_of (take l.byte-index l.text);
}
