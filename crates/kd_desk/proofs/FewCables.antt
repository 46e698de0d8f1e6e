-- A month on a machine that uses only its first cables needs no other cable.
use Rattle.kd_desk.proofs.{Days.in_files, Exclusions.one_list}
use Rattle.kd_desk.proofs.Prelude.{List, Ok, Parts, [], machine_of, subst, ℕ, ◌∷◌, ◌≡◌}
use Rattle.kd_desk.specs.FewCables.{DayHasPairsUpTo, FewCablesServeAMonth, FileUsesNoneAbove, UsesFirstCablesOnly}
use Rattle.kd_desk.specs.Month.{CardAndFile, SetTheMachineInTurn}
use Rattle.kd_desk.proofs.Months.{months_set_the_machine}
use Rattle.kd_plan.proofs.Planning.FewCables.{few_cables_serve}
use Rattle.kd_plan.specs.FewCables.{NamesNoneAbove, UsesNoneAbove}
use Rattle.std.proofs.Common.{All}
use Rattle.std.proofs.lemmas.List.Elements.{All-cons, All-head, All-nil, All-tail}

UsesNoneAbove-same_file : (number : ℕ) (file : List ℕ) (n m : Parts) → machine_of file ≡ Ok n → machine_of file ≡ Ok m
    → UsesNoneAbove number n → UsesNoneAbove number m
UsesNoneAbove-same_file number file n m one other uses = let same : n ≡ m = cc in subst (UsesNoneAbove number) same uses

use_first_cables_only : (number : ℕ) (file sheet days : List ℕ) (papers : List CardAndFile)
    → SetTheMachineInTurn file sheet days papers → FileUsesNoneAbove number file
    → All (DayHasPairsUpTo number sheet) days → All (UsesFirstCablesOnly number) papers
use_first_cables_only number file sheet [] [] sets uses few = All-nil (UsesFirstCablesOnly number)
use_first_cables_only number file sheet (day ∷ days) (paper ∷ papers) sets uses few =
    let on = sets.0 in
    let found = in_files file sheet day on.m on.s on.found in
    let pairs = All-head (DayHasPairsUpTo number sheet) day days few found.1.0 on.s found.1.1 found.1.2 in
    let leads = on.proved.reaches.leads in
    let serve = few_cables_serve number on.m on.n on.s on.settings (uses on.m found.0) pairs on.spares leads in
    let next : FileUsesNoneAbove number paper.file = λ n of_file.
    UsesNoneAbove-same_file number paper.file on.n n on.of_next of_file serve.1 in
    let here : UsesFirstCablesOnly number paper = record {
      card = λ settings says.
          subst (All (NamesNoneAbove number)) (one_list paper.card on.settings settings on.of_card says) serve.0;
      file = next;
    }
    in
    let rest = use_first_cables_only number paper.file sheet days papers sets.1 next
    (All-tail (DayHasPairsUpTo number sheet) day days few) in
    All-cons (UsesFirstCablesOnly number) paper papers here rest
use_first_cables_only number file sheet days papers sets uses few = absurd sets

pub few_cables_serve_a_month : FewCablesServeAMonth
few_cables_serve_a_month number file sheet days papers written =
    use_first_cables_only number file sheet days papers (months_set_the_machine file sheet days papers written)
