-- Laws about the texts of cards, the least number of settings, and cards that prove themselves.
use Rattle.kd_card.specs.Proving.{AreSettingsNeeded, AreModelPrices, ProvesByNumber, Proves, priced_count}
use Rattle.kd_card.specs.Shortest.{IsShortest, LeadsToTheDay, ShowShortest}
use Rattle.kd_card.specs.declared.prices.Version.TheVariants.{ByKind}
use Rattle.kd_card.specs.{Prices.{PricesFit, price_sum, version_of, ArePrices, ArePricesTight}, declared.fault.CardFault.CardFault}
use Rattle.kd_card.specs.{CardFault.{IsCardAnswer, IsCardFault}, declared.prices.PriceParts.PriceParts, CardText.IsCard}
use Rattle.kd_card.specs.Loose.{loose_lines}
use Rattle.kd_state.specs.{SheetDay.{Day, IsLegalDay, day_model}, declared.machine.parts.Parts.Parts}
use Rattle.kd_state.specs.{declared.setting.Setting.Setting, Costs.{cost_table, loose_count}}
use Rattle.kd_state.specs.Machine.{IsMachine, model_of}
use Rattle.std.specs.Prelude.{◌≡◌, ℕ, ◌+◌, ◌≤◌, List, [], ◌++◌, length, pos, ◌+ℤ◌, ◌≤ℤ◌, ◌↔◌, Ok}

-- The list of settings for a machine's loose things has one setting for each of these things. A thing such as a ring or
-- a pin is loose if it isn't as the day says. Cables and bars are never loose.
abbrev pub LooseThingsAreCounted : Type 0
LooseThingsAreCounted =
    (machine : Parts) (day : Day) → IsMachine machine → IsLegalDay day → model_of machine ≡ day_model day
    → length (loose_lines machine day) ≡ loose_count machine day

-- Suppose that prices fit. Then no list that reaches the day is shorter than the prices' sum plus the number of loose
-- things. A thing is loose if it isn't as the day says. Cables and bars are never loose.
abbrev pub FittingPricesBoundLists : Type 0
FittingPricesBoundLists =
    (machine : Parts) (day : Day) (prices : PriceParts) (settings : List Setting) → IsMachine machine → IsLegalDay day
    → ArePrices prices → AreModelPrices machine prices
    → PricesFit (cost_table machine day) prices → LeadsToTheDay machine day settings
    → (pos (loose_count machine day) +ℤ price_sum prices) ≤ℤ pos (length settings)

-- A setting is unpriced if it changes no cable and no bar. Suppose that a list reaches the day, and has at most as
-- many unpriced settings as the machine has loose things. Then each unpriced setting lowers the number of loose things
-- by one.
abbrev pub AsFewAreNeeded : Type 0
AsFewAreNeeded =
    (machine : Parts) (day : Day) (settings : List Setting) → IsLegalDay day → model_of machine ≡ day_model day
    → LeadsToTheDay machine day settings
    → length settings ≤ loose_count machine day + priced_count settings → AreSettingsNeeded machine day settings

-- Suppose that a card with prices by number proves itself. Its number of settings is the sum of its prices plus the
-- number of loose things.
abbrev pub ProvingCardsAreAsLong : Type 0
ProvingCardsAreAsLong =
    (machine : Parts) (day : Day) (settings : List Setting) (prices : PriceParts)
    → ProvesByNumber machine day settings prices
    → pos (length settings) ≡ (pos (loose_count machine day) +ℤ price_sum prices)

-- No list that reaches the day has fewer settings than a card that proves itself.
abbrev pub ProvingCardsAreShortest : Type 0
ProvingCardsAreShortest =
    (machine : Parts) (day : Day) (settings : List Setting) (prices : PriceParts) → IsMachine machine → IsLegalDay day
    → ArePrices prices → Proves machine day settings prices
    → IsShortest machine day settings

-- Suppose that prices by kind fit, and that their sum plus the number of loose things is the length of a list. Then no
-- shorter list reaches the day. A thing is loose if it isn't as the day says. Cables and bars are never loose.
abbrev pub ShownListsAreShortest : Type 0
ShownListsAreShortest =
    (machine : Parts) (day : Day) (settings : List Setting) (prices : PriceParts) → IsMachine machine → IsLegalDay day
    → ShowShortest machine day settings prices → IsShortest machine day settings

-- If a card has prices by kind and proves itself, its prices show that no shorter list of settings leads to the day.
abbrev pub ProvingPricesShow : Type 0
ProvingPricesShow =
    (machine : Parts) (day : Day) (settings : List Setting) (prices : PriceParts) → version_of prices ≡ ByKind
    → Proves machine day settings prices → ShowShortest machine day settings prices

-- If a card with prices by number proves itself, none of its prices can be raised alone. Each row and each column of
-- the table of costs has a tight cell. In a tight cell, the prices of row and column add up to exactly the cost.
abbrev pub ProvingPricesAreTight : Type 0
ProvingPricesAreTight =
    (machine : Parts) (day : Day) (settings : List Setting) (prices : PriceParts) → IsMachine machine → IsLegalDay day
    → ArePrices prices → ProvesByNumber machine day settings prices
    → ArePricesTight (cost_table machine day) prices

-- Different cards have different texts.
abbrev pub TextsDetermineCards : Type 0
TextsDetermineCards =
    (bytes : List ℕ) (day other : ℕ) (xs ys : List Setting) (prices others : PriceParts) → IsCard bytes day xs prices
    → IsCard bytes other ys others
    → (day ≡ other) × (xs ≡ ys) × (prices ≡ others)

-- No card's text is a proper prefix of another card's text.
abbrev pub NoCardBeginsAnother : Type 0
NoCardBeginsAnother =
    (text rest : List ℕ) (day other : ℕ) (xs ys : List Setting) (prices others : PriceParts) → IsCard text day xs prices
    → IsCard (text ++ rest) other ys others → rest ≡ []

-- Reading bytes gives a card exactly if the bytes are the text of this card.
abbrev pub ReadingGivesCards : Type 0
ReadingGivesCards =
    (bytes : List ℕ) (day : ℕ) (xs : List Setting) (prices : PriceParts)
    → IsCardAnswer bytes (Ok (day, xs, prices)) ↔ IsCard bytes day xs prices

-- The text of a card has no fault.
abbrev pub CardsHaveNoFault : Type 0
CardsHaveNoFault =
    (bytes : List ℕ) (day : ℕ) (xs : List Setting) (prices : PriceParts) (fault : CardFault)
    → IsCard bytes day xs prices → ¬ (IsCardFault bytes fault)

-- If bytes are read as a card, they have at most one first fault.
abbrev pub OneCardFault : Type 0
OneCardFault =
    (bytes : List ℕ) (fault other : CardFault) → IsCardFault bytes fault → IsCardFault bytes other → fault ≡ other
