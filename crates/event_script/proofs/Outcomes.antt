-- What some readings come to, behind lines that are read.
use Rattle.std.proofs.Common.{List, ◌++◌, Result, Ok, Err}
use Rattle.event_script.specs.declared.reading.Line.{Line}
use Rattle.event_script.specs.declared.faults.ScriptFault.{ScriptFault}

-- a result behind lines that were read before
abbrev pub behind_lines : List Line → Result (List Line) ScriptFault → Result (List Line) ScriptFault
behind_lines front (Ok lines) = Ok (front ++ lines)
behind_lines front (Err fault) = Err fault
