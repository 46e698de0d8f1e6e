use Rattle.{kd_sheet.specs.Numbers.number_up_to, std.proofs.Common.{drop, filter_map, is_some, length, map, ◌++◌, ◌-◌}}
use Rattle.{std.{proofs.Common.◌≡◌, specs.List.list_all}, toml.specs.View.view}
use Rattle.kd_sheet.proofs.values.letters.letters_of_numbers.Given as goal

-- `letters` has the letters of the items so far; reading all items gives these letters and those of the rest
abbrev pub invariant-loop-item : goal.invariant-loop-item
invariant-loop-item l = record {
  count : length l.letters.items ≡ l.item-index;
  numbers : list_all (λ item. is_some (number_up_to 26 item)) (map view l.items)
      ≡ list_all (λ item. is_some (number_up_to 26 item)) (map view (drop l.item-index l.items));
  letters : map (λ number. number - 1) (filter_map (number_up_to 26) (map view l.items))
      ≡ l.letters.items
      ++ map (λ number. number - 1) (filter_map (number_up_to 26) (map view (drop l.item-index l.items)));
}
