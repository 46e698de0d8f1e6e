-- Laws of settings, lists, machines and days.
use Rattle.std.specs.Prelude.{◌≡◌, ℕ, ◌+◌, ◌<◌, List, ◌++◌, length, All}
use Rattle.std.specs.Bool.{Decides}
use Rattle.kd_tables.specs.declared.{reflector.Reflector.Reflector, wheel.Wheel.Wheel}
use Rattle.kd_state.specs.SameParts.{same_reflector, same_wheel}
use Rattle.kd_state.specs.declared.machine.parts.Parts.{Parts}
use Rattle.kd_state.specs.declared.setting.Setting.{Setting}
use Rattle.kd_state.specs.declared.setting.list.ListFault.{ListFault}
use Rattle.kd_state.specs.declared.setting.why.Why.{Why}
use Rattle.kd_state.specs.Machine.{IsMachine}
use Rattle.kd_state.specs.Setting.{Carries, IsFirstIllegal, Leads}
use Rattle.kd_state.specs.Line.{setting_line, IsSettingInRange, IsListText, IsListFault}
use Rattle.kd_state.specs.SheetDay.{Day, IsLegalDay}
use Rattle.kd_state.specs.OnKey.{OnKey, ReadsAs}
use Rattle.kd_state.specs.EngineKey.{EngineKey, cipher, engine_key_after, key_with_window, IsWindow}
use Rattle.kd_state.specs.TwoCiphers.{IsReady, window_of, physical_cipher, sheet_cipher}
use Rattle.kd_state.specs.OwnKeys.{physical_key, sheet_key, IsTurnedTo}

-- The operator `==` is true for two wheels, or for two reflectors, exactly if they are the same.
abbrev pub SamePartsAreEqual : Type 0
SamePartsAreEqual =
    ((wheel other : Wheel) → Decides (same_wheel wheel other) (wheel ≡ other))
    × ((reflector other : Reflector) → Decides (same_reflector reflector other) (reflector ≡ other))

-- ---- The laws of settings and lists of settings.

-- After a machine carries out a setting, its parts are legal, and each cable's letters are in alphabetical order.
abbrev pub SettingsKeepMachines : Type 0
SettingsKeepMachines =
    (machine after : Parts) (setting : Setting) → IsMachine machine → IsSettingInRange setting
    → Carries machine setting after → IsMachine after

-- After a machine carries out a list of settings, its parts are legal, and each cable's letters are in alphabetical
-- order.
abbrev pub ListsKeepMachines : Type 0
ListsKeepMachines =
    (machine after : Parts) (settings : List Setting) → IsMachine machine → All IsSettingInRange settings
    → Leads machine settings after
    → IsMachine after

-- Carrying out a list of settings on a machine has only one result.
abbrev pub ListsHaveOneResult : Type 0
ListsHaveOneResult =
    (machine after other : Parts) (settings : List Setting) → Leads machine settings after
    → Leads machine settings other → after ≡ other

-- If settings lead from one machine to another, no setting is refused on the way.
abbrev pub LeadsOrRefuses : Type 0
LeadsOrRefuses =
    (machine after : Parts) (settings : List Setting) (line : ℕ) (why : Why) → Leads machine settings after
    → ¬ (IsFirstIllegal machine settings line why)

-- ---- The laws of lines and lists: a text is the text of at most one list, and has at most one fault.

-- Different settings have different lines.
abbrev pub LinesDetermineSettings : Type 0
LinesDetermineSettings =
    (x y : Setting) → IsSettingInRange x → IsSettingInRange y → setting_line x ≡ setting_line y → x ≡ y

-- Bytes are the text of at most one list of settings.
abbrev pub TextsDetermineLists : Type 0
TextsDetermineLists = (bytes : List ℕ) (xs ys : List Setting) → IsListText bytes xs → IsListText bytes ys → xs ≡ ys

-- The text of a list of settings has no fault.
abbrev pub ListsHaveNoFault : Type 0
ListsHaveNoFault =
    (bytes : List ℕ) (xs : List Setting) (fault : ListFault) → IsListText bytes xs → ¬ (IsListFault bytes fault)

-- If a text is read as a list of settings, it has at most one fault.
abbrev pub OneListFault : Type 0
OneListFault =
    (bytes : List ℕ) (fault other : ListFault) → IsListFault bytes fault → IsListFault bytes other → fault ≡ other

-- ---- The laws of ciphers: machines on the day's key encipher as the day asks, and read each other's texts.

-- An engine with a machine's key enciphers as the machine itself does.
abbrev pub EngineEnciphersAsMachine : Type 0
EngineEnciphersAsMachine =
    (machine : Parts) (text : List ℕ) → cipher (physical_key machine) text ≡ physical_cipher machine text

-- Suppose that an engine has a machine's key. After both are turned to the same letters, the engine enciphers as the
-- machine does.
abbrev pub TurnedEngineEnciphersAsMachine : Type 0
TurnedEngineEnciphersAsMachine = (machine turned : Parts) (window text : List ℕ) → IsTurnedTo machine window turned
    → cipher (key_with_window (physical_key machine) window) text ≡ physical_cipher turned text

-- If a machine is set as the day says and shows the day's letters, it is ready to encipher.
abbrev pub ReadsAsDayIsReady : Type 0
ReadsAsDayIsReady =
    (machine : Parts) (day : Day) → IsMachine machine → IsLegalDay day → ReadsAs machine day → IsReady machine

-- If a machine is set as the day says and shows the day's letters, it enciphers each text by the day's key.
abbrev pub ReadsAsDayEnciphersAsDay : Type 0
ReadsAsDayEnciphersAsDay =
    (machine : Parts) (day : Day) (text : List ℕ) → IsMachine machine → IsLegalDay day → ReadsAs machine day
    → physical_cipher machine text ≡ sheet_cipher day text

-- A machine on the day's key is ready.
abbrev pub OnKeyIsReady : Type 0
OnKeyIsReady = (machine : Parts) (day : Day) → IsMachine machine → IsLegalDay day → OnKey machine day → IsReady machine

-- A machine on the day's key enciphers by the day's key, starting from the letters that the machine shows.
abbrev pub OnKeyEnciphersByDaysKey : Type 0
OnKeyEnciphersByDaysKey =
    (machine : Parts) (day : Day) (text : List ℕ) → IsMachine machine → IsLegalDay day → OnKey machine day
    → physical_cipher machine text ≡ cipher (key_with_window (sheet_key day) (window_of machine)) text

-- If a machine on the day's key is turned to other letters, it enciphers by the day's key, starting from these letters.
abbrev pub TurnedEnciphersByDaysKey : Type 0
TurnedEnciphersByDaysKey =
    (machine turned : Parts) (day : Day) (window text : List ℕ) → IsMachine machine → IsLegalDay day → OnKey machine day
    → IsTurnedTo machine window turned
    → physical_cipher turned text ≡ cipher (key_with_window (sheet_key day) window) text

-- A ready machine can be turned to any letters that fit its slots or pin wheels. Its parts stay legal.
abbrev pub MachinesCanBeTurned : Type 0
MachinesCanBeTurned =
    (machine : Parts) (window : List ℕ) → IsMachine machine → IsReady machine → IsWindow (physical_key machine) window
    → (turned : Parts) × IsTurnedTo machine window turned × IsMachine turned

-- If two machines on the day's key show the same letters, each deciphers the other's ciphertext.
abbrev pub EquallySetDecipher : Type 0
EquallySetDecipher =
    (machine other : Parts) (day : Day) (text : List ℕ) → IsMachine machine → IsMachine other → IsLegalDay day
    → OnKey machine day → OnKey other day
    → window_of machine ≡ window_of other → All (λ letter. letter < 26) text
    → physical_cipher other (physical_cipher machine text) ≡ text

-- If an engine on the day's key is turned back to the letters that it showed first, it deciphers its own ciphertext.
abbrev pub DaysEngineDeciphersItself : Type 0
DaysEngineDeciphersItself = (day : Day) (window text : List ℕ) → IsLegalDay day → All (λ letter. letter < 26) text
    → cipher (key_with_window (sheet_key day) window) (cipher (key_with_window (sheet_key day) window) text) ≡ text

-- A machine on the day's key stays on the key when it is turned to other letters.
abbrev pub TurnedStaysOnKey : Type 0
TurnedStaysOnKey =
    (machine turned : Parts) (day : Day) (window : List ℕ) → IsTurnedTo machine window turned → OnKey machine day
    → OnKey turned day

-- If a machine is turned to other letters, only the letters in its key change.
abbrev pub TurningChangesOnlyLetters : Type 0
TurningChangesOnlyLetters =
    (machine turned : Parts) (window : List ℕ) → IsTurnedTo machine window turned
    → physical_key turned ≡ key_with_window (physical_key machine) window

-- A text can be enciphered in two chunks. The second chunk starts from the engine's key after the first chunk.
abbrev pub CipherOfChunks : Type 0
CipherOfChunks =
    (key : EngineKey) (first rest : List ℕ)
    → cipher key (first ++ rest) ≡ cipher key first ++ cipher (engine_key_after key (length first)) rest

-- The key after `count` letters, and then after `more` letters, is the key after `count + more` letters.
abbrev pub KeyAfterChunks : Type 0
KeyAfterChunks =
    (key : EngineKey) (count more : ℕ)
    → engine_key_after (engine_key_after key count) more ≡ engine_key_after key (count + more)
