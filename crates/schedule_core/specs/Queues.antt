-- What waits in lanes that are kept as queues?
use Rattle.std.specs.Prelude.{List, map}
use Rattle.schedule_core.specs.declared.queues.Queue.{Queue}

-- what waits in each queue, front first
abbrev pub queued : {A : Type 0} → List (Queue A) → List (List A)
queued queues = map (λ queue. queue.entries.items) queues
