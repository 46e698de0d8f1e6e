use Rattle.kd_card.proofs.OneCard.{◌≡◌, length, map, take, signed_decimal, ArePricesInRange}
use Rattle.kd_card.proofs.price_text.prices_of_words.Given as goal

abbrev pub invariant-loop-word : goal.invariant-loop-word
invariant-loop-word g l = record {
  texts : map (λ word. word.now) (take l.word-index l.words) ≡ map signed_decimal l.prices.items;
  in_range : ArePricesInRange l.prices.items;
  count : length l.prices.items ≡ l.word-index;
}
