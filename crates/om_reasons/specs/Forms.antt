-- How lines are written, by their first word, and for which command.
use Rattle.std.specs.Prelude.{ℕ, List, Option, Some, None, codes, if◌then◌else◌}
use Rattle.std.specs.Str.{bytes_eq}

-- the form of the lines that begin with a word, where there are such
abbrev pub form_text : List ℕ → Option (List ℕ)
form_text word =
    if bytes_eq word (codes "program") then Some (codes "program NAME SIZE WORD .., each WORD of eight hexadecimal digits")
    else (if bytes_eq word (codes "program-m") then Some (codes "program-m NAME SIZE WORD .., each WORD of eight hexadecimal digits")
    else (if bytes_eq word (codes "proc") then Some (codes "proc NAME PROGRAM")
    else (if bytes_eq word (codes "kill") then Some (codes "kill NAME INTERVAL, for run")
    else (if bytes_eq word (codes "flush") then Some (codes "flush K, of 1 or more, for run; flush P or flush P K for sim")
    else (if bytes_eq word (codes "checkpoint") then Some (codes "checkpoint K, of 1 or more, for run; checkpoint P for sim")
    else (if bytes_eq word (codes "spell") then Some (codes "spell P, for sim")
    else (if bytes_eq word (codes "fuel") then Some (codes "fuel K, of 1 or more, for run")
    else (if bytes_eq word (codes "run") then Some (codes "run P K, for sim")
    else (if bytes_eq word (codes "give") then Some (codes "give P F, for sim")
    else (if bytes_eq word (codes "fail") then Some (codes "fail P, for sim")
    else (if bytes_eq word (codes "join") then Some (codes "join P, for sim")
    else (if bytes_eq word (codes "resume") then Some (codes "resume P, for sim")
    else (if bytes_eq word (codes "resend") then Some (codes "resend P, for sim")
    else (if bytes_eq word (codes "trim") then Some (codes "trim P, for sim")
    else (if bytes_eq word (codes "prune") then Some (codes "prune, for sim")
    else (if bytes_eq word (codes "restart") then Some (codes "restart, for sim")
    else (if bytes_eq word (codes "procs") then Some (codes "procs N, of 1 to 16, for frontier")
    else (if bytes_eq word (codes "log") then Some (codes "log P X V0 .., as many V as there are processes, for frontier")
    else (if bytes_eq word (codes "ckpt") then Some (codes "ckpt P X V0 .., as many V as there are processes, for frontier")
    else None)))))))))))))))))))
