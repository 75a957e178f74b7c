-- What did a delegate do with its home?
--
-- It took messages from its receiver, one by one, and gave each to its store.
use Rattle.std.specs.Prelude.{◌≡◌, Bool, true, false, List, [], ◌∷◌, ◌++◌}
use Rattle.std.specs.List.{list_any}
use Rattle.execution_definitions.specs.Meanings.{Meaning}
use Rattle.set_queue.specs.Ends.{received, IsSameReceiver}
use Rattle.set_queue.specs.declared.message.Message.{Message}
use Rattle.set_queue.specs.declared.message.Message.TheVariants as message
use Rattle.delegates.specs.Stores.{Stored, stored, folded}
use Rattle.delegates.specs.declared.home.Home.{Home}

-- a message is a stop
abbrev pub is_stop : {C O R : Type 0} → Message C O R → Bool
is_stop message.Stop = true
is_stop _ = false

module _ {C O R : Type 0} (m : Meaning C O R) where
  -- a store took these messages, or broke. One that was broken dropped them all
  pub record HasStored (before after : Stored C R) (messages : List (Message C O R))
      : Type 0 where
    pub folds : after.is_broken ≡ false → after ≡ folded m before messages
    pub drops : before.is_broken ≡ true → after ≡ before

  -- a home took these messages from its receiver
  pub record Took (before after : Home C O R) (messages : List (Message C O R)) : Type 0 where
    pub receiver : IsSameReceiver before.receiver after.receiver
    pub received : received after.receiver ≡ received before.receiver ++ messages
    pub store : HasStored (stored before.store) (stored after.store) messages

  -- a home took some messages, none of which is a stop
  pub record TookNoStop (before after : Home C O R) : Type 0 where
    pub front : List (Message C O R)
    pub took : Took before after front
    pub only : list_any is_stop front ≡ false

  -- a delegate worked: the last message that the home took is a stop, and no other is
  pub record HasWorked (before after : Home C O R) : Type 0 where
    pub front : List (Message C O R)
    pub took : Took before after (front ++ message.Stop ∷ [])
    pub only : list_any is_stop front ≡ false

  -- what is promised of a home that comes back: it took some messages, or none
  pub record HasReturned (before after : Home C O R) : Type 0 where
    pub messages : List (Message C O R)
    pub took : Took before after messages
