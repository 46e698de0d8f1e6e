-- Names from std and from other crates that the proofs of this crate use.
pub use Rattle.std.proofs.Common.{Bool, Err, IfOk, IfSome, IsErr, IsErrAnd, IsFalse, IsTrue, List, MatchResult, None}
pub use Rattle.std.proofs.Common.{Ok, Option, Result, Some, [], ap, append_assoc, arith, false, inl, inr, is_ok, length}
pub use Rattle.std.proofs.Common.{refl, rules, subst, sym, true, ℕ, ◌++◌, ◌+◌, ◌-◌, ◌||◌, ◌∙◌, ◌∷◌, ◌≡◌, ◌≢◌, ◌≤◌, ◌⊎◌}
pub use Rattle.std.{proofs.lemmas.Option.same_Some, specs.Io.KnownBytes.{Appends, Consumes}, specs.Option.ok_or}
pub use Rattle.kd_card.specs.CardText.{IsCard}
pub use Rattle.kd_card.specs.declared.prices.PriceParts.{PriceParts}
pub use Rattle.kd_command.specs.CommandLine.{NamedCommand, IsCommandLineOf, unborrowed_command}
pub use Rattle.kd_host.specs.Files.{AreAskedFor, AskedName, MissesOne, IsReadWhole, KnownFile}
pub use Rattle.kd_tables.specs.Answers.{AgreesOrNoMemory}
pub use Rattle.kd_host.specs.Files.{asked_and_had, asked_and_missed, known_file}
pub use Rattle.kd_desk.specs.Messages.{FormsAgreeWithOrders, TypesText, answer_to_message}
pub use Rattle.kd_desk.specs.OnDay.{IsAnswerOnDay}
unfoldable pub use Rattle.kd_desk.specs.OnDay.{machine_and_day}
pub use Rattle.kd_desk.specs.Program.{AsksFor, CarriesOut, IsCommandDone, KnownCommand, known_command}
pub use Rattle.kd_desk.specs.RunApply.{Applies, Carried, NoSettings, RefusedLine}
pub use Rattle.kd_desk.specs.RunCheck.{Checks, Doubtful, NoCard, ForOtherDay, Shortest, verdict_text}
pub use Rattle.kd_desk.specs.CallAnswers.{LacksMemory, is_device, is_refused_before_message}
pub use Rattle.kd_desk.specs.Settings.{AreSettings, InCard, InList, IsSettingsFault, OfCard, OfList, begins_as_card}
pub use Rattle.kd_desk.specs.declared.{fault.DeskFault.DeskFault, stop.Stop.Stop, stop.Stop.TheVariants.{Unread, Usage}}
pub use Rattle.{kd_form.specs.declared.fault.FormFault.FormFault, kd_sheet.specs.MachineFile.machine_of}
pub use Rattle.kd_state.specs.{Machine.IsMachine, Setting.{Leads, Refuses}}
pub use Rattle.kd_state.specs.{SheetDay.{Day, IsLegalDay, day_number}, declared.machine.parts.Parts.Parts}
pub use Rattle.kd_state.specs.declared.setting.Setting.{Setting}
pub use Rattle.kd_tables.specs.{Ports.{FailureAgrees, KeepsFailureFlag, Port, port, read_limit}, Writing.TakesPrefix}
