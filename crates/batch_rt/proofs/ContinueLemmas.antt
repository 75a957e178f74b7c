-- A store that comes to the same, step by step.
use Rattle.std.proofs.Common.{◌≡◌, ℕ, zero, suc, Bool, false, Some, List, [], ◌∷◌, length, sym, ◌∙◌, subst, refl, arith}
use Rattle.std.specs.Prelude.{slice_get}
use Rattle.std.proofs.lemmas.Option.{same_Some}
use Rattle.ss_base.specs.declared.ids.Run.{Run}
use Rattle.execution_definitions.specs.Meanings.{Meaning}
use Rattle.delegation.specs.Runtimes.{IsFront, HasDone}
use Rattle.delegation.proofs.runs.FrontLemmas.{front_here, fronts_trans}
use Rattle.batch_rt.specs.declared.store.Store.{Store}
use Rattle.batch_rt.specs.declared.lane.Lane.{Lane}
use Rattle.batch_rt.specs.Lanes.{lane_runs}
use Rattle.batch_rt.specs.Stores.{Continues, sent_runs}

module _ {C O R : Type 0} where
  length-sent : (logs : List (List Run)) (lanes : List (Lane C O R)) →
      length logs ≡ length lanes → length (sent_runs logs lanes) ≡ length logs
  length-sent [] lanes count = refl
  length-sent (log ∷ logs) [] count = absurd (omega (arith, count))
  length-sent (log ∷ logs) (lane ∷ lanes) count =
      let rest = length-sent logs lanes (omega (arith, count)) in omega (arith, rest)

  each_log : (logs : List (List Run)) (lanes : List (Lane C O R)) (n : ℕ)
      (front whole : List Run) → slice_get logs n ≡ Some front →
      slice_get (sent_runs logs lanes) n ≡ Some whole → IsFront front whole
  each_log [] lanes n front whole is_front is_whole = absurd cc
  each_log (log ∷ logs) [] n front whole is_front is_whole = absurd cc
  each_log (log ∷ logs) (lane ∷ lanes) zero front whole is_front is_whole =
      subst (λ runs. IsFront front runs) (same_Some _ _ is_whole)
      (front_here front log (lane_runs lane) (sym is_front))
  each_log (log ∷ logs) (lane ∷ lanes) (suc n) front whole is_front is_whole =
      each_log logs lanes n front whole is_front is_whole

  -- what lanes did is the first of what was sent to them
  pub logs_done : (logs : List (List Run)) (lanes : List (Lane C O R)) (is_open : Bool) →
      length logs ≡ length lanes → (is_open ≡ false → logs ≡ sent_runs logs lanes) →
      HasDone (sent_runs logs lanes) logs is_open
  logs_done logs lanes is_open count all = record {
    fronts = record {
      count = sym (length-sent logs lanes count);
      each = each_log logs lanes;
    };
    all = all;
  }

module _ {C O R : Type 0} (m : Meaning C O R) where
  pub continues_on : (a b c : Store C O R) → Continues m a b → Continues m b c → Continues m a c
  continues_on a b c first second = record {
    state = second.state ∙ first.state;
    sent = second.sent ∙ first.sent;
    whole = second.whole;
    objects = second.objects ∙ first.objects;
    lanes = second.lanes ∙ first.lanes;
    logs = fronts_trans a.logs.items b.logs.items c.logs.items first.logs second.logs;
  }
