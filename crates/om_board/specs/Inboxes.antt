use Rattle.std.specs.Prelude.{◌≡◌, ℕ, List, [], ◌∷◌, ◌++◌, Option, None, Some, IfSome}
use Rattle.atomic_table.specs.Seated.{TableId}
use Rattle.atomic_table.specs.declared.badge.Badge.{Badge}
use Rattle.crossbeam_channel.specs.declared.flavors.array.Key.{Key}
use Rattle.crossbeam_channel.specs.Fifo.{Held}
use Rattle.om_format.specs.declared.message.Message.{Message}
use Rattle.om_board.specs.declared.inbox.PutAnswer.{PutAnswer}
use Rattle.om_board.specs.declared.inbox.PutAnswer.TheVariants.{Put, Full, Gone}
use Rattle.om_board.specs.declared.inbox.TheConstants.{CAPACITY}

-- an inbox: its channel, and the pair of processes
pub record Line : Type 0 where
  pub channel : TableId × Badge (Key Message)
  pub from : ℕ
  pub to : ℕ

-- what was put into an inbox by one pass, oldest first
pub record Traffic : Type 0 where
  pub line : Line
  pub messages : List Message

-- what was taken from an inbox by one pass, oldest first; and all that was put, where its holder has taken in the pass that
-- put
pub record Takings : Type 0 where
  pub line : Line
  pub messages : List Message
  pub put : Option (List Message)

-- the message goes from the one process of the pair to the other
pub record IsOfLine (line : Line) (message : Message) : Type 0 where
  pub from : message.from ≡ line.from
  pub to : message.to ≡ line.to

-- these are the last of the messages
abbrev pub IsEndOf : List Message → List Message → Type 0
IsEndOf messages last = (before : List Message) × (messages ≡ before ++ last)

-- the answer to a put, and what has been put after it: a message that is not put comes back; where the inbox was full,
-- the last messages that were put stood in it at a moment of the call
abbrev pub MatchPut : PutAnswer → Message → Traffic → Traffic → Type 0
MatchPut Put message old new = new ≡ record old { messages = old.messages ++ message ∷ [] }
MatchPut (Full back) message old new = (back ≡ message) × (new ≡ old) × Held CAPACITY (IsEndOf old.messages)
MatchPut (Gone back) message old new = (back ≡ message) × (new ≡ old)

-- the answer to a take, and what has been taken after it: where there was none, nothing was left in the inbox of what was
-- put, as far as that is known, at a moment of the call
abbrev pub MatchTake : Option Message → Takings → Takings → Type 0
MatchTake None old new = (new ≡ old) × Held 0 (λ left. IfSome old.put (λ put. put ≡ old.messages ++ left))
MatchTake (Some message) old new = (new ≡ record old { messages = old.messages ++ message ∷ [] }) × IsOfLine old.line message
