use Rattle.kd_state.proofs.Prelude.{cable_in_order, drop, map, ◌++◌, ◌≡◌, take}
use Rattle.kd_state.proofs.machine.cable.put_in_order.Given as goal

abbrev pub invariant-loop-cable : goal.invariant-loop-cable
invariant-loop-cable l =
    l.cables ≡ map (λ cable. cable_in_order cable.0 cable.1) (take l.cable-index l.initial.cables)
    ++ drop l.cable-index l.initial.cables
