-- How a part of a form is made: ciphers and their letters, the internal key, and the letters in groups.
pub use Rattle.kd_form.proofs.Prelude.{common_steps, ◌≡◌, ◌∙◌, ℕ, ◌<◌, List, [], ◌∷◌, length, get_or, arith, All}
pub use Rattle.kd_form.proofs.Prelude.{slice_index, enumerate_from, get_or-eq_default, cases_lt, length-map, All-get_or}
pub use Rattle.kd_form.proofs.Prelude.{All-from_get_or, All-map, Day, Rotor, Pin, cipher_from, ◌≢◌, suc, ◌+◌, ◌≤◌}
pub use Rattle.kd_form.proofs.Prelude.{inl, inr, ◌++◌, map, refl, ap, subst, append_assoc, length-append, slice_get}
pub use Rattle.kd_form.proofs.Prelude.{Some, Contains, cases_eq, append-nil, map_push, PrecedesOrEquals, ArePicked}
pub use Rattle.kd_form.proofs.Prelude.{IsInternalKey, HaveNoInternalKey, IsTakenInTurn, OnWheel, OffWheel, ◌-◌, ◌%◌}
pub use Rattle.kd_form.proofs.Prelude.{take, drop, sym, length-drop, add-one, min, replicate, codes, decimal, Option}
pub use Rattle.kd_form.proofs.Prelude.{option_map, div_ceil, join_with_byte, div-eq_of_lt, mod-eq_of_lt, take_min}
pub use Rattle.kd_form.proofs.Prelude.{drop_min, length-replicate, Heading, indicator_words, heading_words, pieces}
pub use Rattle.kd_form.proofs.Prelude.{words_after_spaces, line_then, Part, pin_day, IsLegalDay, Keys, Rotor, Pin}
pub use Rattle.kd_form.proofs.Prelude.{PinKeys, Indicator, IsKeysAnswer, ThenNext-Ok, rotor_letters, enciphered_choice}
pub use Rattle.kd_form.proofs.Prelude.{pin_letters, list_letters, IsPartMade, part_size, pin_indicators}
pub use Rattle.kd_form.proofs.Prelude.{fill_last_group, sheet_key, IsWindow, take-append_seam, drop-append_seam}
pub use Rattle.kd_form.proofs.Prelude.{HasIndicator, deciphered_key, HasIndicatorsAround, group_of_body, keys_of_body}
pub use Rattle.kd_form.proofs.Prelude.{list_of_body, text_of_body, IsLettersAnswer, Ok, All-append, All-cons}
pub use Rattle.kd_form.proofs.Prelude.{All-replicate, twice_on_key, IsFraction, IsHeading, sent_letters, AreKeys}
pub use Rattle.kd_form.proofs.Prelude.{nat_tests, AreRising, GoesOn}
use Rattle.{kd_enigma.specs.Cipher.{path, product}}
use Rattle.{kd_state.specs.EngineKey.{EngineKey, engine_key_after, key_with_window}}
use Rattle.kd_form.specs.PartMaking.{IsKeyOfDaysMachine}
use Rattle.kd_tables.specs.{Permutation.{alphabet, followed_by}, Rings.ring_of}
use Rattle.std.proofs.lemmas.List.FromFn.{get_or-range_with_len, length-enumerate_from, length-range_with_len}

pub enciphered_length : (s : Day) (window text : List ℕ) → length (cipher_from s window text) ≡ length text
enciphered_length s window text = grind (arith, length-map, length-enumerate_from)

-- each place of a table of letters reads as a letter; a place after its end reads as the first letter
pub letter_read : (table : List ℕ) (place : ℕ) → All (λ letter. letter < 26) table → slice_index table place < 26
letter_read table place letters = grind (arith, cases_lt, All-get_or {X = ℕ}, get_or-eq_default {A = ℕ})

-- each entry of `product ps` is a letter
product_letters : (ps : List (List ℕ)) → All (λ letter. letter < 26) (product ps)
unfolding product followed_by
product_letters [] =
    All-from_get_or (λ letter. letter < 26) alphabet 0
    (λ i inside. let below : i < 26 = omega (arith, length-range_with_len 0 26) in
    omega (arith, get_or-range_with_len 0 26 i 0 below))
product_letters (p ∷ ps) =
    All-map (λ letter. letter < 26) (λ y. slice_index (product ps) y) p
    (λ k d inside. letter_read (product ps) (get_or p k d) (product_letters ps))

pub enciphered_letters : (s : Day) (window text : List ℕ) → All (λ letter. letter < 26) (cipher_from s window text)
unfolding path
enciphered_letters (Rotor s) window text =
    All-map (λ letter. letter < 26) _ (enumerate_from 1 text) (λ k d inside. letter_read _ _ (product_letters _))
enciphered_letters (Pin s) window text =
    All-map (λ letter. letter < 26) _ (enumerate_from 0 text) (λ k d inside. omega arith)

-- ---- the day's own machine stays on the day's key, whatever is enciphered on it

pub new_has_days_key : (s : Day) (key : EngineKey) → key ≡ sheet_key s → IsKeyOfDaysMachine s key
new_has_days_key (Rotor s) key is = record { window = _; is = is }
new_has_days_key (Pin s) key is = record { window = _; is = is }

pub run_keeps_days_key : (s : Day) (key left : EngineKey) (window : List ℕ) (count : ℕ) → IsKeyOfDaysMachine s key
    → left ≡ engine_key_after (key_with_window key window) count → IsKeyOfDaysMachine s left
run_keeps_days_key (Rotor s) key left window count kept left_is = grind (arith, kept.is)
run_keeps_days_key (Pin s) key left window count kept left_is = grind (arith, kept.is)

-- -------- skipping letters finds the first rising places, letter by letter and wheel by wheel

-- a pick: rising places from `start` on, whose letters are on the wheels from `wheel` to the sixth
abbrev pub Picks : List ℕ → ℕ → ℕ → List ℕ → Type 0
Picks letters wheel start [] = wheel ≡ 7
Picks letters wheel start (place ∷ places) =
    (start ≤ place) × (place < length letters) × Contains (ring_of wheel) (slice_index letters place)
    × Picks letters (wheel + 1) (place + 1) places

pub record IsFirstPick (letters : List ℕ) (wheel start : ℕ) (places : List ℕ) : Type 0 where
  pub picks : Picks letters wheel start places
  pub first : (others : List ℕ) → Picks letters wheel start others → PrecedesOrEquals places others

abbrev pub HasNoPick : List ℕ → ℕ → ℕ → Type 0
HasNoPick letters wheel start = (places : List ℕ) → ¬ (Picks letters wheel start places)

Picks-earlier : (letters : List ℕ) (wheel start other : ℕ) (places : List ℕ) → other ≤ start
    → Picks letters wheel start places → Picks letters wheel other places
Picks-earlier letters wheel start other [] less picks = picks
Picks-earlier letters wheel start other (place ∷ places) less
    (after, inside, on, more) = (omega arith, inside, on, more)

module _ (letters : List ℕ) (wheel start : ℕ) (inside : start < length letters) where
  -- if the letter at `start` is on the wheel, the first pick takes it
  first_on : (places : List ℕ) → wheel < 7 → Contains (ring_of wheel) (slice_index letters start)
      → IsFirstPick letters (wheel + 1) (start + 1) places → IsFirstPick letters wheel start (start ∷ places)
  first_on places less on first = grind (arith, cases_eq)

  none_on : wheel < 7 → HasNoPick letters (wheel + 1) (start + 1) → HasNoPick letters wheel start
  none_on less none [] picks = omega arith
  none_on less none (other ∷ others) (after, within, on, more) =
      none others (Picks-earlier letters (wheel + 1) (other + 1) (start + 1) others (omega arith) more)

  -- if the letter at `start` isn't on the wheel, each pick begins after `start`
  Picks-later : (places : List ℕ) → ¬ (Contains (ring_of wheel) (slice_index letters start))
      → Picks letters wheel start places → Picks letters wheel (start + 1) places
  Picks-later [] off picks = picks
  Picks-later (place ∷ places) off picks = grind (arith, cases_eq)

-- The letters `done` are picked for the first wheels. The first pick for the other wheels, from `start` on,
-- completes the first pick for all wheels. If the other wheels have no pick, all wheels together have none.
pub record IsPicking (letters : List ℕ) (start : ℕ) (done : List ℕ) : Type 0 where
  pub places : List ℕ
  pub few : length done ≤ 6
  pub taken : done ≡ map (λ place. slice_index letters place) places
  pub made : (more : List ℕ) → IsFirstPick letters (length done + 1) start more
      → IsFirstPick letters 1 0 (places ++ more)
  pub spent : HasNoPick letters (length done + 1) start → HasNoPick letters 1 0

pub picking_none : (letters : List ℕ) → IsPicking letters 0 []
picking_none letters = grind arith

no_seventh : (letter : ℕ) → ¬ (Contains (ring_of 7) letter)
unfolding ring_of
no_seventh letter on = grind arith

pub picking_more : (letters : List ℕ) (start letter : ℕ) (done next : List ℕ) → IsPicking letters start done
    → start < length letters
    → letter ≡ slice_index letters start → IsTakenInTurn done letter next → IsPicking letters (start + 1) next
picking_more letters start letter done next picking inside is (OnWheel on taken) =
    let less : length done < 6 = elim (cases_lt (length done) 6) [
      | inl few ↦ few
      | inr six ↦
          absurd (no_seventh letter (subst (λ w. Contains (ring_of w) letter) (omega (arith, six, picking.few)) on))
    ] in
    let wheel : length next ≡ length done + 1 = ap length taken ∙ length-append done (letter ∷ []) in
    record {
      places = picking.places ++ start ∷ [];
      few = omega (arith, wheel, less);
      taken = grind (arith, map_push, picking.taken);
      made = λ more first. rw (append_assoc picking.places (start ∷ []) more) (picking.made (start ∷ more)
          (first_on letters (length done + 1) start inside more (omega (arith, less)) (rw is at on)
          (rw wheel at first)));
      spent = λ none. picking.spent (none_on letters (length done + 1) start inside (omega (arith, less))
          (rw wheel at none));
    }
picking_more letters start letter done next picking inside is (OffWheel off same) = rw same (record {
  places = picking.places;
  few = picking.few;
  taken = picking.taken;
  made = λ more first. picking.made more (record {
    picks = Picks-earlier letters _ (start + 1) start more (omega arith) first.picks;
    first = λ others picks. first.first others (Picks-later letters _ start inside others (rw is at off) picks);
  });
  spent =
      λ none. picking.spent (λ others picks.
      none others (Picks-later letters _ start inside others (rw is at off) picks));
})

-- ---- picks and rising places are the same

Picks-on_wheels : (letters : List ℕ) (wheel start : ℕ) (places : List ℕ) → Picks letters wheel start places
    → AreRising start (length letters) places × (length places + wheel ≡ 7)
    × ((i letter : ℕ) → slice_get (map (λ p. slice_index letters p) places) i ≡ Some letter
    → Contains (ring_of (wheel + i)) letter)
Picks-on_wheels letters wheel start [] picks = (tt, omega arith, λ i letter is. absurd (cc))
Picks-on_wheels letters wheel start (place ∷ places) (after, inside, on, more) =
    grind (arith, Picks-on_wheels letters (wheel + 1) (place + 1) places more)

picks_of : (letters : List ℕ) (wheel start : ℕ) (places : List ℕ) → AreRising start (length letters) places
    → length places + wheel ≡ 7 → ((i letter : ℕ) → slice_get (map (λ p. slice_index letters p) places) i ≡ Some letter
    → Contains (ring_of (wheel + i)) letter) → Picks letters wheel start places
picks_of letters wheel start [] rising count each = omega arith
picks_of letters wheel start (place ∷ places) (after, inside, rising) count each =
    let on = each 0 (slice_index letters place) refl in
    let rest = picks_of letters (wheel + 1) (place + 1) places rising (omega arith) in
    (after, inside, grind (arith, on), rest (λ i letter is. grind (arith, each (suc i) letter is)))

picks_from_picked : (letters places picked : List ℕ) → ArePicked letters places picked → Picks letters 1 0 places
picks_from_picked letters places picked are = grind (arith, picks_of, length-map)

pub key_picked : (letters done : List ℕ) (start : ℕ) → IsPicking letters start done → length done ≡ 6
    → IsInternalKey letters done
key_picked letters done start picking six =
    grind (arith, picking.made [], append-nil, Picks-on_wheels, length-map, picks_from_picked)

none_left : (letters : List ℕ) (wheel : ℕ) → wheel < 7 → HasNoPick letters wheel (length letters)
none_left letters wheel less [] picks = omega arith
none_left letters wheel less (place ∷ places) (after, inside, on, more) = omega arith

pub run_out : (letters done : List ℕ) (start : ℕ) → IsPicking letters start done → length letters ≤ start
    → length done ≢ 6 → HaveNoInternalKey letters
run_out letters done start picking end less places picked are =
    picking.spent (λ others picks. none_left letters _ (omega (arith, less, picking.few)) others
    (Picks-earlier letters _ start (length letters) others end picks))
    places (picks_from_picked letters places picked are)

-- -------- letters in groups and lines, piece by piece

pub more_pieces : (size n : ℕ) → 0 < size → 0 < n → div_ceil n size ≡ div_ceil (n - size) size + 1
more_pieces size n large some = grind arith

pub size_some : (s : Day) → 0 < part_size s
size_some s = grind arith

pub pieces-next : (size : ℕ) (letters : List ℕ) → 0 < size → 0 < length letters
    → pieces size letters ≡ take size letters ∷ pieces size (drop size letters)
pieces-next size letters large some = grind (arith, more_pieces, length-drop {A = ℕ}, add-one)

pub pieces-none : (size : ℕ) → 0 < size → pieces size [] ≡ []
pieces-none size large = rw (div-eq_of_lt large, mod-eq_of_lt large) refl

pub line_of_groups : (group : List ℕ) (groups : List (List ℕ))
    → join_with_byte 32 (group ∷ groups) ≡ group ++ words_after_spaces groups
line_of_groups group [] = sym (append-nil group)
line_of_groups group (next ∷ groups) = ap (λ text. group ++ 32 ∷ text) (line_of_groups next groups)

pub ruleset in_groups = (append_assoc, append-nil, line_of_groups)

pub first_pieces : (size n : ℕ) (letters front rest : List ℕ) → 0 < size → 0 < length letters
    → n ≡ min (length letters) size → front ≡ take n letters → rest ≡ drop n letters
    → pieces size letters ≡ front ∷ pieces size rest
first_pieces size n letters front rest large some is one other =
    grind (arith, pieces-next size letters, take_min size letters, drop_min size letters)

pub heading_line : (front whole : List ℕ) (h : Heading)
    → whole ≡ (((((((front ++ codes "PART ") ++ decimal h.part) ++ codes "/") ++ decimal h.parts) ++ codes " ")
    ++ decimal h.letters)
    ++ words_after_spaces (indicator_words h.indicator)) ++ codes "\n"
    → whole ≡ front ++ line_then (heading_words h) []
heading_line front whole h written = grind (arith, append_assoc {A = ℕ}, line_of_groups)

-- keys that suit the day can show in the windows, and have an internal key
pub has_internal : (s : Day) (k : PinKeys) (part : ℕ) → IsKeysAnswer s part (Pin k) (Ok tt)
    → IsWindow (sheet_key s) k.external × ((internal : List ℕ) × IsInternalKey (enciphered_choice s k) internal)
has_internal s k part suits =
    let shown = ThenNext-Ok suits in let found = ThenNext-Ok shown.next in (shown.says, (found.found, found.says))

-- the deciphered message key can show in the windows
pub key_is_window : (s : Day) (i : Indicator) (key : List ℕ) → HasIndicator s (Some i) → key ≡ deciphered_key s i
    → All (λ l. l < 26) key → IsWindow (sheet_key s) key
key_is_window s i key has is within = grind (arith, enciphered_length, length-map)

pub list_of_day : (s : Day) (found : Option (List ℕ)) (due : List ℕ) → found ≡ option_map (λ d. d.list) (pin_day s)
    → found ≡ Some due → due ≡ list_letters s
list_of_day s found due told is = grind arith

-- -------- a part as it is made, and what it gives back

-- the letters are a piece of a text: at least one, and at most as many as a part has
pub record IsPiece (s : Day) (piece : List ℕ) : Type 0 where
  pub some : 0 < length piece
  pub few : length piece ≤ part_size s
  pub within : All (λ letter. letter < 26) piece

-- the part is part `part` of `parts`, and is read as the letters `text`
pub record GivesBack (s : Day) (part parts : ℕ) (text : List ℕ) (made : Part) : Type 0 where
  pub is_heading : IsHeading s made.heading
  pub numbered : made.heading.part ≡ part
  pub same_parts : made.heading.parts ≡ parts
  pub within : All (λ letter. letter < 26) made.body
  pub counted : length made.body ≡ made.heading.letters
  pub read : IsLettersAnswer s part made.heading.indicator made.body (Ok text)

rotor_places : (fillers group text : List ℕ) → length fillers ≡ 2 → length group ≡ 3
    → (group_of_body ((fillers ++ group) ++ text) ≡ group) × (drop 5 ((fillers ++ group) ++ text) ≡ text)
rotor_places (a ∷ b ∷ []) (c ∷ d ∷ e ∷ []) text two three = (refl, refl)
rotor_places _ _ text two three = absurd (omega arith)

record ArePlaced (k : PinKeys) (list text letters : List ℕ) : Type 0 where
  around : HasIndicatorsAround letters
  keys : k ≡ keys_of_body letters
  listed : list ≡ list_of_body letters
  text_is : text ≡ text_of_body letters

pin_places : (k : PinKeys) (external list text : List ℕ) → k.external ≡ external → length external ≡ 6 → length list ≡ 2
    → ArePlaced k list text (((k.chosen ∷ k.chosen ∷ k.external ++ list) ++ text)
    ++ (k.chosen ∷ k.chosen ∷ k.external ++ list))
pin_places k (a ∷ b ∷ c ∷ d ∷ e ∷ f ∷ []) (x ∷ y ∷ []) text is six two =
    let first : List ℕ = k.chosen ∷ k.chosen ∷ a ∷ b ∷ c ∷ d ∷ e ∷ f ∷ x ∷ y ∷ [] in
    let size : length ((first ++ text) ++ first) - 10 ≡ length (first ++ text) =
    omega (arith, length-append (first ++ text) first) in
    let less : length ((first ++ text) ++ first) - 10 - 10 ≡ length text =
    omega (arith, length-append (first ++ text) first, length-append first text) in
    rw is (record {
      around = record {
        again = sym (ap (λ n. drop n ((first ++ text) ++ first)) size
            ∙ drop-append_seam (first ++ text) first);
        twice = refl;
      };
      keys = refl;
      listed = refl;
      text_is = sym (ap (λ n. take n (text ++ first)) less ∙ take-append_seam text first);
    })
pin_places k _ _ text is six two = absurd (omega arith)

pub part_gives_back : (s : Day) (part parts : ℕ) (k : Keys) (piece : List ℕ) (made : Part) → IsLegalDay s → AreKeys s k
    → IsKeysAnswer s part k (Ok tt) → IsFraction part parts → IsPiece s piece
    → IsPartMade s part parts k piece made → GivesBack s part parts (sent_letters s piece) made
part_gives_back (Rotor s) part parts (Rotor k) piece made legal are suits fraction is makes =
    let day : Day = Rotor s in
    let enciphered : List ℕ = cipher_from day k.message_key piece in
    let count : length (rotor_letters day k piece) ≡ 5 + length piece =
    simp length-append (omega (arith, enciphered_length day k.message_key piece, are.fillers, are.group)) in
    let key : cipher_from day k.ground_setting (cipher_from day k.ground_setting k.message_key) ≡ k.message_key =
    twice_on_key day k.ground_setting k.message_key legal are.message_key.within in
    let text : cipher_from day k.message_key enciphered
    ≡ piece = twice_on_key day k.message_key piece legal is.within in
    let size = enciphered_length day k.ground_setting k.message_key in
    let placed = rotor_places k.fillers k.group enciphered are.fillers.count are.group.count in
    rw makes (record {
      is_heading = grind (arith, count, size, enciphered_letters day k.ground_setting k.message_key);
      numbered = refl;
      same_parts = refl;
      within = grind (arith, All-append (λ letter. letter < 26), are, enciphered_letters day k.message_key piece);
      counted = refl;
      read = GoesOn tt (rw (placed.0) suits) (grind (arith, placed, key, text));
    })
part_gives_back (Pin s) part parts (Pin k) piece made legal are suits fraction is (internal, first, makes) =
    let day : Day = Pin s in
    let indicators : List ℕ = pin_indicators day k in
    let enciphered : List ℕ = cipher_from day internal (fill_last_group piece) in
    let more : ℕ = (5 - length piece % 5) % 5 in
    let groups : length (fill_last_group piece) ≡ length piece + more =
    omega (arith, length-append piece (replicate more 23), length-replicate {A = ℕ} more 23) in
    let count : length (pin_letters day k internal piece) ≡ 20 + length (fill_last_group piece) =
    simp length-append (omega (
      arith,
      legal.list.count,
      are.external.count,
      simp length-append at (enciphered_length day internal (fill_last_group piece)),
    )) in
    let outer : All (λ letter. letter < 26) indicators =
    grind (arith, All-cons (λ letter. letter < 26), All-append (λ letter. letter < 26), are, legal.list) in
    let inner : All (λ letter. letter < 26) (fill_last_group piece) =
    grind (arith, All-append (λ letter. letter < 26), All-replicate (λ letter. letter < 26), is.within) in
    rw makes (record {
      is_heading = grind (arith, count, groups);
      numbered = refl;
      same_parts = refl;
      within = All-append (λ letter. letter < 26) (indicators ++ enciphered) indicators
          (All-append (λ letter. letter < 26) indicators enciphered outer
          (enciphered_letters day internal (fill_last_group piece))) outer;
      counted = refl;
      read =
          let placed = pin_places k k.external (list_letters day) enciphered refl are.external.count legal.list.count in
          let text : cipher_from day internal enciphered ≡ fill_last_group piece =
          twice_on_key day internal (fill_last_group piece) legal inner in
          GoesOn tt placed.around (GoesOn tt (rw placed.keys at (has_internal day k part suits).0)
          (GoesOn tt (sym placed.listed)
          (GoesOn internal (rw placed.keys at first) (cc (text, placed.text_is)))));
    })
part_gives_back _ part parts _ piece made legal are suits fraction is makes = absurd are
