-- What does the program context have of a lane, and what is kept of it between calls?
--
-- Messages are taken from one home: the lane's own, or that which its delegate was handed. What was
-- taken from it since can't be seen. So a lane is seen as the store of that home, and the messages
-- sent since. Once these are taken the lane comes to one store, however far its delegate has come.
-- A call may see that the lane came on: its store took the first of these messages, and the others are
-- left.
use Rattle.std.specs.Prelude.{◌≡◌, Bool, true, false, ◌&&◌, is_none, is_some, Option, Some, None, List, [], ◌∷◌, ◌++◌, length, drop}
use Rattle.execution_definitions.specs.Meanings.{Meaning}
use Rattle.set_queue.specs.Ends.{sent, received, AreOneLane}
use Rattle.set_queue.specs.declared.ends.Sender.{Sender}
use Rattle.set_queue.specs.declared.message.Message.{Message}
use Rattle.set_queue.specs.declared.message.Message.TheVariants as message
use Rattle.delegates.specs.Stores.{Stored, stored, value_of, empty_store, taken, folded}
use Rattle.delegates.specs.declared.home.Home.{Home}
use Rattle.lane_ends.specs.declared.lane_end.Taker.{Taker}
use Rattle.lane_ends.specs.declared.lane_end.Taker.TheVariants.{Program, Delegate}
use Rattle.lane_ends.specs.declared.lane_end.LaneEnd.{LaneEnd}

-- a message finds its object in a store: one that carries it comes to where it isn't, and a run to
-- where it is
abbrev pub finds : {C O R : Type 0} → Stored C R → Message C O R → Bool
finds s (message.Carry call epoch set object value op reading) = is_none (value_of s object.0)
finds s (message.Run call epoch set object op reading) = is_some (value_of s object.0)
finds s message.Stop = true

module _ {C O R : Type 0} where
  -- what was sent and isn't known to be taken from a home
  abbrev pub sent_since : Sender C O R → Home C O R → List (Message C O R)
  sent_since sender home = drop (length (received home.receiver)) (sent sender)

module _ {C O R : Type 0} (m : Meaning C O R) where
  -- each of these messages finds its object, where it comes to be taken
  abbrev pub each_finds : Stored C R → List (Message C O R) → Bool
  each_finds s [] = true
  each_finds s (next ∷ rest) = finds s next && each_finds (taken m s next) rest

  -- the store to which a home comes with all that was sent
  abbrev pub comes_from : Sender C O R → Home C O R → Stored C R
  comes_from sender home = folded m (stored home.store) (sent_since sender home)

  -- messages are taken from this home: it is of the same lane, has taken the first of what was
  -- sent, and isn't broken, and each message since finds its object
  pub record IsTakenFrom (sender : Sender C O R) (home : Home C O R) : Type 0 where
    pub one : AreOneLane sender home.receiver
    pub first : sent sender ≡ received home.receiver ++ sent_since sender home
    pub unbroken : (stored home.store).is_broken ≡ false
    pub served : each_finds (stored home.store) (sent_since sender home) ≡ true

  -- a store came on: of the messages that waited for it, it took the first, in their order, and the
  -- others are left
  pub record ComesOn (base after : Stored C R) (since left : List (Message C O R)) : Type 0 where
    pub done : List (Message C O R)
    pub split : since ≡ done ++ left
    pub store : after ≡ folded m base done

  -- more may have been sent, such as a stop, and from the same home the lane comes to the same
  pub record ComesToSame (old new : Sender C O R) (home : Home C O R) : Type 0 where
    pub whole : IsTakenFrom new home
    pub same : comes_from new home ≡ comes_from old home

  -- another home took its place, which has come on, and comes to the same
  pub record HasGoneOn (old new : Sender C O R) (home back : Home C O R) : Type 0 where
    pub whole : IsTakenFrom new back
    pub same : comes_from new back ≡ comes_from old home
    pub on : ComesOn (stored home.store) (stored back.store) (sent_since old home)
        (sent_since new back)

  -- another home took its place, which has come on, and then one message more was sent
  pub record HasTakenIn (old new : Sender C O R) (home back : Home C O R) (x : Message C O R)
      : Type 0 where
    pub whole : IsTakenFrom new back
    pub takes : comes_from new back ≡ taken m (comes_from old home) x
    pub left : List (Message C O R)
    pub on : ComesOn (stored home.store) (stored back.store) (sent_since old home) left
    pub last : sent_since new back ≡ left ++ x ∷ []

module _ {C W O R : Type 0} where
  -- a delegate in a thread of its own takes the messages
  abbrev pub is_delegate : Option (Taker C W O R) → Bool
  is_delegate (Some (Delegate worker bell)) = true
  is_delegate _ = false

  abbrev pub has_worker : LaneEnd C W O R → Bool
  has_worker end = is_delegate end.taker

module _ {C W O R : Type 0} (home_of : W → Home C O R) where
  -- the home from which messages are taken
  abbrev pub taker_home : Taker C W O R → Home C O R
  taker_home (Program home) = home
  taker_home (Delegate worker bell) = home_of worker

  -- the messages sent since
  abbrev pub since_by : Sender C O R → Option (Taker C W O R) → List (Message C O R)
  since_by sender None = []
  since_by sender (Some taker) = sent_since sender (taker_home taker)

  abbrev pub since_of : LaneEnd C W O R → List (Message C O R)
  since_of end = since_by end.sender end.taker

module _ {C W O R : Type 0} (m : Meaning C O R) (home_of : W → Home C O R) where
  -- the store of that home
  abbrev pub base_by : Option (Taker C W O R) → Stored C R
  base_by None = empty_store m
  base_by (Some taker) = stored (taker_home home_of taker).store

  abbrev pub base_of : LaneEnd C W O R → Stored C R
  base_of end = base_by end.taker

  -- the store to which the lane comes
  abbrev pub comes_to : LaneEnd C W O R → Stored C R
  comes_to end = folded m (base_of end) (since_of home_of end)

  abbrev pub IsTakenBy : Sender C O R → Option (Taker C W O R) → Type 0
  IsTakenBy sender None = ⊥
  IsTakenBy sender (Some taker) = IsTakenFrom m sender (taker_home home_of taker)

  -- what holds between calls
  abbrev pub IsWhole : LaneEnd C W O R → Type 0
  IsWhole end = IsTakenBy end.sender end.taker

  -- a lane in which nothing is
  pub record IsIdle (end : LaneEnd C W O R) : Type 0 where
    pub whole : IsWhole end
    pub program : has_worker end ≡ false
    pub empty : base_of end ≡ empty_store m
    pub none : since_of home_of end ≡ []

  -- the lane came on, and comes to the same
  pub record GoesOn (old new : LaneEnd C W O R) : Type 0 where
    pub whole : IsWhole new
    pub same : comes_to new ≡ comes_to old
    pub on : ComesOn m (base_of old) (base_of new) (since_of home_of old) (since_of home_of new)

  -- the lane came on, and then took this message in, which is the last that waits
  pub record TakesIn (old new : LaneEnd C W O R) (x : Message C O R) : Type 0 where
    pub whole : IsWhole new
    pub takes : comes_to new ≡ taken m (comes_to old) x
    pub left : List (Message C O R)
    pub on : ComesOn m (base_of old) (base_of new) (since_of home_of old) left
    pub last : since_of home_of new ≡ left ++ x ∷ []

  -- all was taken, and this is the home
  pub record HasCome (old new : LaneEnd C W O R) (home : Home C O R) : Type 0 where
    pub one : AreOneLane new.sender home.receiver
    pub all : received home.receiver ≡ sent new.sender
    pub store : stored home.store ≡ comes_to old
    pub unbroken : (stored home.store).is_broken ≡ false
