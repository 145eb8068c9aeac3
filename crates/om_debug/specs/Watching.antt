-- Which bytes of memory are read and written, and which watchpoint that meets.
use Rattle.std.specs.Prelude.{ℕ, ◌+◌, Bool, true, false, not, ◌&&◌, List, [], ◌∷◌, length, min, nat_le, nat_lt, slice_range, Option, Some, None, if◌then◌else◌}
use Rattle.std.specs.Str.{bytes_eq}
use Rattle.om_isa.specs.declared.inst.Inst.{Inst}
use Rattle.om_isa.specs.declared.inst.Inst.TheVariants.{Lb, Lh, Lw, Lbu, Lhu, Sb, Sh, Sw}
use Rattle.om_isa.specs.derived.Decoded.{decoded}
use Rattle.om_machine.specs.State.{State, word_at}
use Rattle.om_machine.specs.Effects.{address_of}
use Rattle.om_machine.specs.derived.NextStep.{next_of}
use Rattle.om_machine.specs.declared.event.Event.{Event}
use Rattle.om_machine.specs.declared.event.Event.TheVariants.{Call}
use Rattle.om_machine.specs.declared.event.EnvCall.TheVariants.{Receive}
use Rattle.om_requests.specs.declared.request.Watch.{Watch}
use Rattle.om_requests.specs.declared.request.Watched.{Watched}
use Rattle.om_requests.specs.declared.request.Watched.TheVariants.{Writes, Reads, Both}
use Rattle.om_timeline.specs.declared.deed.Deed.{Deed}
use Rattle.om_timeline.specs.declared.deed.Deed.TheVariants.{Nothing, Ran, Took, Fell, Back}
use Rattle.om_debug.specs.declared.moment.Next.{Next}
use Rattle.om_debug.specs.declared.moment.Next.TheVariants.{Still, Instructions, Receipt, Failure, Return}
use Rattle.om_debug.specs.declared.watching.Access.{Access}

-- the instruction at pc, where its word lies in memory and is one
abbrev pub inst_at : State → Option Inst
inst_at m = if nat_lt (length m.memory) (m.pc + 4) then None else decoded m.ext (word_at m.memory m.pc)

abbrev pub bytes_at : ℕ → ℕ → Bool → Option Access
bytes_at address length writes = Some (record { address = address; length = length; writes = writes })

-- what an instruction reads or writes: loads and stores alone do
abbrev pub access_of : State → Inst → Option Access
access_of m (Lb rd rs1 imm) = bytes_at (address_of m rs1 imm) 1 false
access_of m (Lh rd rs1 imm) = bytes_at (address_of m rs1 imm) 2 false
access_of m (Lw rd rs1 imm) = bytes_at (address_of m rs1 imm) 4 false
access_of m (Lbu rd rs1 imm) = bytes_at (address_of m rs1 imm) 1 false
access_of m (Lhu rd rs1 imm) = bytes_at (address_of m rs1 imm) 2 false
access_of m (Sb rs1 rs2 imm) = bytes_at (address_of m rs1 imm) 1 true
access_of m (Sh rs1 rs2 imm) = bytes_at (address_of m rs1 imm) 2 true
access_of m (Sw rs1 rs2 imm) = bytes_at (address_of m rs1 imm) 4 true
access_of m _ = None

abbrev pub access_of_some : State → Option Inst → Option Access
access_of_some m None = None
access_of_some m (Some inst) = access_of m inst

-- what the instruction at pc reads or writes
abbrev pub inst_access : State → Option Access
inst_access m = access_of_some m (inst_at m)

-- a message of so many bytes is written to the buffer of the receive, as many of them as it has room for
abbrev pub receipt_access : Event → ℕ → Option Access
receipt_access (Call (Receive addr cap)) bytes = bytes_at addr (min bytes cap) true
receipt_access event bytes = None

-- an access of this kind is watched
abbrev pub heeds : Watched → Bool → Bool
heeds Writes writes = writes
heeds Reads writes = not writes
heeds Both writes = true

-- a byte of the access is one of the watchpoint
abbrev pub overlaps : Watch → Access → Bool
overlaps w a = nat_lt a.address (w.address + w.length) && nat_lt w.address (a.address + a.length)

abbrev pub meets : Watch → Access → Bool
meets w a = heeds w.kind a.writes && overlaps w a

-- the first watchpoint that an access meets
abbrev pub first_met : Option Access → List Watch → Option Watch
first_met None watches = None
first_met (Some a) [] = None
first_met (Some a) (w ∷ watches) = if meets w a then Some w else first_met (Some a) watches

-- the bytes of the watchpoint, whose writes are watched, are others in the second machine
abbrev pub changes : Watch → State → State → Bool
changes w before after =
    heeds w.kind true && (nat_le (w.address + w.length) (length before.memory) && (nat_le (w.address + w.length) (length after.memory)
    && not (bytes_eq (slice_range before.memory w.address (w.address + w.length)) (slice_range after.memory w.address (w.address + w.length)))))

abbrev pub first_changed : State → State → List Watch → Option Watch
first_changed before after [] = None
first_changed before after (w ∷ watches) = if changes w before after then Some w else first_changed before after watches

-- the watchpoint that is met by what comes next to a machine: an instruction, a message, or a return, which writes what it changes
abbrev pub ran_met : List Watch → State → Next → Option Watch
ran_met watches m Still = None
ran_met watches m (Instructions left) = first_met (inst_access m) watches
ran_met watches m Receipt = None
ran_met watches m Failure = None
ran_met watches m Return = None

abbrev pub watch_met : List Watch → State → Option Deed → Next → Option Watch
watch_met watches m None next = None
watch_met watches m (Some Nothing) next = None
watch_met watches m (Some (Ran all)) next = ran_met watches m next
watch_met watches m (Some (Took from body)) next = first_met (receipt_access (next_of m).0 (length body)) watches
watch_met watches m (Some Fell) next = None
watch_met watches m (Some (Back after)) next = first_changed m after watches
