-- Names from std and from other crates that the proofs of this crate use.
pub use Rattle.std.proofs.Common.{Bool, Bor, Err, IfOk, IfSome, IsErr, IsErrAnd, IsSomeAnd, IsTrue, List, All}
pub use Rattle.std.proofs.Common.{MatchResult, None, Ok, Option, Result, Some, [], ap, append_assoc, ap₂, arith}
pub use Rattle.std.proofs.Common.{codes}
pub use Rattle.std.proofs.Common.{decimal, false, inl, inr, is_ok, length, map, option_map, refl, rules, subst}
pub use Rattle.std.proofs.Common.{sym, take, true, ℕ, ◌++◌, ◌+◌, ◌-◌, ◌||◌, ◌∙◌, ◌∷◌, ◌≡◌, ◌≢◌, ◌≤◌, ◌⊎◌}
pub use Rattle.std.{proofs.lemmas.Option.same_Some, specs.Option.ok_or}
pub use Rattle.clap.specs.Simple.{app_of_fields}
pub use Rattle.clap.specs.Words.{App, FailsBy, HasKind, HasMatchesOf, IsAmong, Row, Rule, Shape, app_of, fault_of}
pub use Rattle.clap.specs.Words.{first_of, first_value, found_of, is_simple, is_simple_and_free, kind_of, new_app}
pub use Rattle.clap.specs.Words.{new_rule, rows_of, rule_of, subcommand_of, subcommand_rows_of}
pub use Rattle.clap.specs.declared.builder.arg.Arg.{Arg}
pub use Rattle.clap.specs.declared.error.{Error.Error, kind.ErrorKind.ErrorKind}
pub use Rattle.clap.specs.declared.error.kind.ErrorKind.TheVariants.{OutOfMemory}
pub use Rattle.kd_state.specs.SheetDay.{IsDayNumber}
pub use Rattle.kd_curator_command.specs.CommandLine.{AsksForHelp, HasDay, HasDays, HasLanguage, HasNoCommand, IsCommandLineOf, IsCommandOf}
pub use Rattle.kd_curator_command.specs.CommandLine.{IsMadeOf, IsMeant, IsNoCommandLine, IsTaskOf, IsToldAs, NamedCommand}
pub use Rattle.kd_curator_command.specs.CommandLine.{is_help}
pub use Rattle.kd_curator_command.specs.CommandLine.{unborrowed_command}
pub use Rattle.kd_curator_command.specs.Days.{AreDays}
