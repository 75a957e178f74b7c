use Rattle.std.proofs.Common.{◌∙◌, ap, ap₂}
use Rattle.std.proofs.lemmas.Result.{on_ok_weaker}
use Rattle.std.specs.FinMap as finite
use Rattle.class_laws.specs.Counts.{count_of, counts_join}
use Rattle.class_laws.specs.Laws.Counts.{counts_laws, count_of-counts_join}
use Rattle.class_laws.specs.Laws.Counts.{contains_key-counts_join}
use Rattle.class_laws.proofs.count_map.CountMapReducible.join.Goals as goal
use Rattle.class_laws.proofs.count_map.CountMapReducible.join.Goals.{then-len, else-len}

-- whichever of the two was poured into the other
pub returns-clause-value : goal.returns-clause-value
returns-clause-value c =
    on_ok_weaker c.pour.result (λ poured. poured ∙ elim c.if-len.branch [
      | then-len w ↦
          ap₂ counts_join
          (ap (λ s. s.counts) w.self-inside-is ∙ w.swap.ensures.x_after ∙ c.other.view_is)
          (w.smaller-is ∙ w.swap.ensures.y_after ∙ c.self.view_is)
          ∙ counts_laws.commutative c.args.other c.args.self.now
      | else-len w ↦
          ap₂ counts_join
          (ap (λ s. s.counts) w.self-inside-is ∙ c.self.view_is)
          (w.smaller-is ∙ c.other.view_is)
    ]) c.pour.ensures

pub returns-clause-counts : goal.returns-clause-counts
returns-clause-counts c =
    on_ok_weaker c.pour.result (λ value key.
    ap (λ counts. count_of counts key) value
    ∙ count_of-counts_join c.args.self.now c.args.other key)
    (returns-clause-value c)

pub returns-clause-keys : goal.returns-clause-keys
returns-clause-keys c =
    on_ok_weaker c.pour.result (λ value key.
    ap (λ counts. finite.contains_key counts key) value
    ∙ contains_key-counts_join c.args.self.now c.args.other key)
    (returns-clause-value c)
