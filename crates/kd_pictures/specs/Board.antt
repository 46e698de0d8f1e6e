-- The picture of a plugboard: the lines of the cables, and the sockets. A page has two pictures of the plugboard. One
-- shows the plugboard before the settings, and marks the plugs to take out. The other shows the plugboard after the
-- settings, and marks the plugs to put in. Words are in language `l`.
use Rattle.std.specs.Prelude.{codes, decimal, ℕ, ◌+◌, ◌-◌, ◌*◌, nat_lt, Bool, false, not, ◌||◌, if◌then◌else◌}
use Rattle.std.specs.Prelude.{is_some}
use Rattle.std.specs.Prelude.{List, [], ◌∷◌, ◌++◌, flat_map, Option, Some, None, unwrap_or}
use Rattle.std.specs.List.{list_any}
use Rattle.std.specs.Option.{option_map_or}
use Rattle.kd_state.specs.declared.machine.parts.Parts.{Parts}
use Rattle.kd_state.specs.Machine.{cable_letters, machine_cable}
use Rattle.kd_tables.specs.Pairs.{has_letter}
use Rattle.kd_pictures.specs.declared.board.Plugs.{Plugs}
use Rattle.kd_pictures.specs.declared.board.Plugs.TheVariants.{In, Out}
use Rattle.kd_pictures.specs.declared.numbers.TheConstants.{CABLES}
use Rattle.kd_language.specs.declared.language.Language.{Language}
use Rattle.kd_pictures.specs.declared.words.Class.{Class}
use Rattle.kd_pictures.specs.declared.words.Class.TheVariants as classes
use Rattle.kd_pictures.specs.declared.words.Word.{Word}
use Rattle.kd_pictures.specs.declared.words.Word.TheVariants.{After, Before}
use Rattle.kd_pictures.specs.declared.texts.TheConstants as texts
use Rattle.kd_language.specs.Language.{text_in}
use Rattle.kd_pictures.specs.Sockets.{keyboard, label_y, line_x, socket_x, socket_y}
use Rattle.kd_language.specs.Template.{filled}
use Rattle.kd_pictures.specs.Template.{letter_text}
use Rattle.kd_pictures.specs.Words.{class_text, word_text}

-- the letters at the two ends of cable `number` of machine `m`; both `None` if the machine lacks this cable
abbrev pub cable_of : Parts → ℕ → Option ℕ × Option ℕ
cable_of m number = unwrap_or (machine_cable m number) (None, None)

-- whether cable `number` of machine `m` has a plug at `letter`
abbrev pub has_plug : Parts → ℕ → ℕ → Bool
has_plug m number letter = has_letter (cable_letters (cable_of m number)) letter

-- whether the plug at a cable's end moves: the end has a letter, and cable `number` of machine `n` has no plug there
abbrev pub end_moves : Parts → ℕ → Option ℕ → Bool
end_moves n number end = option_map_or (λ letter. not (has_plug n number letter)) end false

-- ---- The cables in words, for the picture's title.

abbrev pub cable_words : ℕ → Option ℕ × Option ℕ → List ℕ
cable_words number (Some one, Some other) =
    filled texts.CABLE_WORDS.now (decimal number ∷ letter_text one ∷ letter_text other ∷ [])
cable_words number (Some one, None) = filled texts.LOOSE_WORDS.now (decimal number ∷ letter_text one ∷ [])
cable_words number (None, other) = []

-- whether cable `number` of machine `m` has a plug
abbrev pub is_plugged : Parts → ℕ → Bool
is_plugged m number = is_some (cable_of m number).0

-- `separator`, and then the words for a cable that has a plug
abbrev pub cable_after : List ℕ → Parts → ℕ → List ℕ
cable_after separator m number = separator ++ cable_words number (cable_of m number)

-- The words for the cables in the list that have a plug, such as `1 A-B, 2 C-D`. `separator` stands before the first
-- of these cables, and a comma before each later one.
abbrev pub cables_after : List ℕ → Parts → List ℕ → List ℕ
cables_after separator m [] = []
cables_after separator m (number ∷ numbers) =
    if is_plugged m number then cable_after separator m number ++ cables_after (codes ", ") m numbers
    else cables_after separator m numbers

abbrev pub has_cables : Parts → List ℕ → Bool
has_cables m numbers = list_any (is_plugged m) numbers

unfoldable pub all_cables : Language → Parts → List ℕ
all_cables l m = if has_cables m CABLES then cables_after [] m CABLES else text_in l texts.NO_CABLES

-- ---- The lines of the cables.

-- the lane of cable `number`: the height, measured from the top, at which the cable's line runs level
abbrev pub lane : ℕ → ℕ
lane number = 139 + 9 * number

-- The height at which a cable's line begins to bend. The line leads from a socket at height `y` to the lane at height
-- `lane`.
abbrev pub bend : ℕ → ℕ → ℕ
bend y lane = if nat_lt y lane then lane - 5 else lane + 5

-- the first piece of a cable's line: from a socket into the cable's lane
abbrev pub left_half : Class → ℕ → ℕ → List ℕ
left_half class lane letter = filled texts.LEFT_HALF.now (
    class_text class ∷ decimal (line_x letter) ∷ decimal (socket_y letter) ∷ decimal (bend (socket_y letter) lane)
    ∷ decimal (line_x letter) ∷ decimal lane ∷ decimal (line_x letter + 5) ∷ decimal lane ∷ [])

-- the last piece of a cable's line: along the cable's lane, and then to a socket
abbrev pub right_half : ℕ → ℕ → List ℕ
right_half lane letter = filled texts.RIGHT_HALF.now (
    decimal (line_x letter - 5) ∷ decimal (line_x letter) ∷ decimal lane
    ∷ decimal (line_x letter) ∷ decimal (bend (socket_y letter) lane) ∷ decimal (socket_y letter) ∷ [])

-- the last piece of the line of a cable with one plug: along the cable's lane to an open end
abbrev pub open_end : ℕ → List ℕ
open_end letter = filled texts.OPEN_END.now (decimal (line_x letter + 20) ∷ [])

-- the line of a cable between two sockets: from the left socket to the cable's lane, along the lane, to the right
-- socket
abbrev pub line_between : Class → ℕ → ℕ → ℕ → List ℕ
line_between class lane left right = left_half class lane left ++ right_half lane right

-- the line of a cable with one plug: from its socket to an open end in its lane
abbrev pub open_line : Class → ℕ → ℕ → List ℕ
open_line class lane letter = left_half class lane letter ++ open_end letter

abbrev pub cable_line : Class → ℕ → Option ℕ × Option ℕ → List ℕ
cable_line class lane (Some one, Some other) =
    if nat_lt (line_x one) (line_x other) then line_between class lane one other else line_between class lane other one
cable_line class lane (Some one, None) = open_line class lane one
cable_line class lane (None, other) = []

abbrev pub moving_class : Plugs → Class
moving_class Out = classes.Out
moving_class In = classes.In

-- The CSS class of the line of cable `number`, whose plugs are at the letters `cable`. The line is thick if machine `n`
-- lacks one of these plugs.
abbrev pub line_class : Plugs → Parts → ℕ → Option ℕ × Option ℕ → Class
line_class plugs n number cable =
    if end_moves n number cable.0 || end_moves n number cable.1 then moving_class plugs else classes.Plain

abbrev pub line_text : Plugs → Parts → Parts → ℕ → List ℕ
line_text plugs m n number =
    cable_line (line_class plugs n number (cable_of m number)) (lane number) (cable_of m number)

-- ---- The sockets.

-- the number of the cable with a plug at `letter`; `None` if no cable has a plug there
abbrev pub cable_holding : Parts → ℕ → List ℕ → Option ℕ
cable_holding m letter [] = None
cable_holding m letter (number ∷ numbers) =
    if has_plug m number letter then Some number else cable_holding m letter numbers

-- a plug, drawn as the cable's number in a circle
abbrev pub round_plug : List ℕ → ℕ → ℕ → List ℕ
round_plug template letter number = filled template (
    decimal (socket_x letter) ∷ decimal (label_y letter) ∷ letter_text letter
    ∷ decimal (socket_x letter) ∷ decimal (socket_y letter)
    ∷ decimal (socket_x letter) ∷ decimal (socket_y letter + 6) ∷ decimal number ∷ [])

-- a plug that moves: drawn as a square if it is taken out, as a disc if it is put in
abbrev pub moving_plug : Plugs → ℕ → ℕ → List ℕ
moving_plug Out letter number = filled texts.GOES_OUT.now (
    decimal (socket_x letter) ∷ decimal (label_y letter) ∷ letter_text letter
    ∷ decimal (socket_x letter - 15) ∷ decimal (socket_y letter - 15)
    ∷ decimal (socket_x letter) ∷ decimal (socket_y letter + 6) ∷ decimal number ∷ [])
moving_plug In letter number = round_plug texts.GOES_IN.now letter number

abbrev pub free_socket : ℕ → List ℕ
free_socket letter = filled texts.FREE.now (
    decimal (socket_x letter) ∷ decimal (label_y letter) ∷ letter_text letter
    ∷ decimal (socket_x letter) ∷ decimal (socket_y letter) ∷ [])

-- The socket of `letter`: free, or with a cable's plug. If this cable has no plug at `letter` on machine `n`, the plug
-- is drawn as a plug that moves.
abbrev pub socket_holding : Plugs → Parts → ℕ → Option ℕ → List ℕ
socket_holding plugs n letter None = free_socket letter
socket_holding plugs n letter (Some number) =
    if has_plug n number letter then round_plug texts.STAYS.now letter number else moving_plug plugs letter number

abbrev pub socket_text : Plugs → Parts → Parts → ℕ → List ℕ
socket_text plugs m n letter = socket_holding plugs n letter (cable_holding m letter CABLES)

-- ---- The picture.

abbrev pub picture_name : Plugs → Word
picture_name Out = Before
picture_name In = After

unfoldable pub board_head : Language → Plugs → List ℕ
board_head l plugs = filled (text_in l texts.BOARD) (word_text l (picture_name plugs) ∷ [])

-- The picture of the plugboard of machine `m`. A plug is marked if machine `n` doesn't have this plug at the same
-- letter.
unfoldable pub board_text : Language → Plugs → Parts → Parts → List ℕ
board_text l plugs m n =
    board_head l plugs ++ all_cables l m ++ texts.TITLE_END.now
    ++ flat_map (line_text plugs m n) CABLES ++ flat_map (socket_text plugs m n) keyboard ++ texts.BOARD_END.now
