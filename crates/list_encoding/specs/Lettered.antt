-- For this crate's own functions: the operations by the first letter of their names.
use Rattle.std.specs.Prelude.{ℕ, nat_eq, bytes_eq, find, List, [], ◌∷◌, ◌++◌, map, Option, None, if◌then◌else◌}
use Rattle.operation.specs.declared.AluKind.TheVariants.{Add, Sub, And, Or, Xor, Shl, Shr, Sar, Min, Max}
use Rattle.operation.specs.declared.Size.TheVariants.{Word, Half, HalfU, Byte, ByteU}
use Rattle.list_encoding.specs.declared.opcodes.Mnemonic.{Mnemonic}
use Rattle.list_encoding.specs.declared.opcodes.Mnemonic.TheVariants.{Alu, AluImm, Pbr, Mvb, Mvr, Mul, Div, Rem, Load, Store, Inb, Outb, Cmp, CmpImm, Bru, Brct, Brcf, Brl, Halt}
use Rattle.list_encoding.specs.Reading.{tests}
use Rattle.list_encoding.specs.Names.{name_of}

-- those whose names begin with a letter
abbrev pub lettered : ℕ → List Mnemonic
lettered letter =
    if nat_eq letter 97 then Alu Add ∷ (AluImm Add ∷ (Alu And ∷ (AluImm And ∷ [])))
    else (if nat_eq letter 98 then Bru ∷ (Brct ∷ (Brcf ∷ (Brl ∷ [])))
    else (if nat_eq letter 99 then map Cmp tests ++ map CmpImm tests
    else (if nat_eq letter 100 then Div ∷ []
    else (if nat_eq letter 104 then Halt ∷ []
    else (if nat_eq letter 105 then Inb ∷ []
    else (if nat_eq letter 108 then Load Word ∷ (Load Half ∷ (Load HalfU ∷ (Load Byte ∷ (Load ByteU ∷ []))))
    else (if nat_eq letter 109 then Mul ∷ (Mvb ∷ (Mvr ∷ (Alu Min ∷ (Alu Max ∷ (AluImm Min ∷ (AluImm Max ∷ []))))))
    else (if nat_eq letter 111 then Outb ∷ (Alu Or ∷ (AluImm Or ∷ []))
    else (if nat_eq letter 112 then Pbr ∷ []
    else (if nat_eq letter 114 then Rem ∷ []
    else (if nat_eq letter 115 then Store Word ∷ (Store Half ∷ (Store Byte ∷ (Alu Sub ∷ (AluImm Sub ∷ (Alu Shl ∷ (Alu Shr ∷ (Alu Sar ∷ (AluImm Shl ∷ (AluImm Shr ∷ (AluImm Sar ∷ []))))))))))
    else (if nat_eq letter 120 then Alu Xor ∷ (AluImm Xor ∷ [])
    else []))))))))))))

-- the one of a name among those
abbrev pub named_by_letter : List ℕ → Option Mnemonic
named_by_letter [] = None
named_by_letter (letter ∷ rest) = find (λ m. bytes_eq (name_of m) (letter ∷ rest)) (lettered letter)
