-- A text is enciphered row by row.
use Rattle.kd_state.specs.SheetDay.{Pin, Rotor}
use Rattle.kd_pins.specs.PinWheels.{pins_of}
use Rattle.kd_enigma.proofs.Ciphers as enigma
use Rattle.kd_drum.specs.Converter.{PinKey, pin_key_turned}
use Rattle.kd_drum.proofs.Ciphers as drum
use Rattle.kd_message.specs.Laws.{RowsAreEnciphered}

pub rows_are_enciphered : RowsAreEnciphered
rows_are_enciphered (Rotor s) start before row = enigma.cipher_in_turn _ before row
rows_are_enciphered (Pin s) start before row =
    let key : PinKey = record { pins = pins_of s.pins; letters = s.window; bars = s.rows } in
    drum.cipher_in_turn (pin_key_turned key start) before row
