-- What do contracts see of the two ends of a lane?
--
-- Each end remembers all that passed through it. What one knows of the other may be out of date, and
-- is compared where the ends meet.
use Rattle.std.specs.Prelude.{ℕ, List}
use Rattle.rtrb.specs.Ring as ring
use Rattle.set_queue.specs.declared.message.Message.{Message}
use Rattle.set_queue.specs.declared.ends.Sender.{Sender}
use Rattle.set_queue.specs.declared.ends.Receiver.{Receiver}

module _ {C O R : Type 0} where
  -- all messages sent, oldest first
  abbrev pub sent : Sender C O R → List (Message C O R)
  sent s = ring.sent s.producer

  -- how many more messages the sender knows to fit
  abbrev pub free_slots : Sender C O R → ℕ
  free_slots s = ring.known_free s.producer

  -- how many messages the lane has room for
  abbrev pub capacity_of : Sender C O R → ℕ
  capacity_of s = ring.producer_capacity s.producer

  -- all messages taken, oldest first
  abbrev pub received : Receiver C O R → List (Message C O R)
  received r = ring.received r.consumer

  -- the messages that the receiver knows to be in the lane, which it takes next
  abbrev pub known : Receiver C O R → List (Message C O R)
  known r = ring.known_items r.consumer

  -- the two ends are of one lane
  abbrev pub AreOneLane : Sender C O R → Receiver C O R → Type 0
  AreOneLane s r = ring.IsPair s.producer r.consumer

  -- the same end of the same lane
  abbrev pub IsSameSender : Sender C O R → Sender C O R → Type 0
  IsSameSender before after = ring.SameProducer before.producer after.producer

  abbrev pub IsSameReceiver : Receiver C O R → Receiver C O R → Type 0
  IsSameReceiver before after = ring.SameConsumer before.consumer after.consumer
