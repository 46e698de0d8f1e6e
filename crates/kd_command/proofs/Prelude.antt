-- Names from std and from other crates that the proofs of this crate use.
pub use Rattle.std.proofs.Common.{Bor, Err, IfOk, IfSome, IsSomeAnd, List, None, Ok, Option, Result, Some, [], ap, ap₂}
pub use Rattle.std.proofs.Common.{arith, codes, decimal, false, map, option_map, refl, rules, subst, sym, take, true, ℕ}
pub use Rattle.std.proofs.Common.{◌++◌, ◌∙◌, ◌∷◌, ◌≡◌, ◌≢◌}
pub use Rattle.std.proofs.lemmas.Option.{same_Some}
pub use Rattle.clap.specs.Simple.{app_of_fields}
pub use Rattle.clap.specs.Words.{App, FailsBy, HasKind, HasMatchesOf, Row, app_of, fault_of, first_of, first_value}
pub use Rattle.clap.specs.Words.{found_of, is_simple, is_simple_and_free, kind_of, new_app, new_rule, rows_of, rule_of}
pub use Rattle.clap.specs.Words.{subcommand_of, subcommand_rows_of}
pub use Rattle.clap.specs.declared.builder.arg.Arg.{Arg}
pub use Rattle.kd_command.specs.CommandLine.{IsActionOf, IsCommandOf, NamedCommand, NamedAction, IsCommandLineOf}
pub use Rattle.kd_command.specs.CommandLine.{unborrowed_command}
pub use Rattle.kd_state.specs.SheetDay.{IsDayNumber}
