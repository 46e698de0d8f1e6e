-- For sending and for receiving a message: the name of the command, and the name of its argument for the file.
-- Test: tests/cases/desk-words.toml, tests/cases/curator-words.toml
use Rattle.std.specs.Prelude.{codes, ℕ, List}
use Rattle.kd_tables.specs.declared.direction.Direction.{Direction}
use Rattle.kd_tables.specs.declared.direction.Direction.TheVariants.{Receive, Send}

-- the name of the command: `send` or `receive`
abbrev pub direction_name : Direction → List ℕ
direction_name Send = codes "send"
direction_name Receive = codes "receive"

-- the name of the argument for the message's file: `ORDER` or `FORM`
abbrev pub direction_word : Direction → List ℕ
direction_word Send = codes "ORDER"
direction_word Receive = codes "FORM"
