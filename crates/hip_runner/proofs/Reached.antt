-- Events within reach.
use Rattle.std.proofs.Common.{◌≡◌, Bool, true, false, cond, refl, ap, subst}
use Rattle.hip_code.specs.declared.code.Code.{Code}
use Rattle.hip_runs.specs.declared.event.Event.{Event}
use Rattle.hip_runs.specs.declared.event.Event.TheVariants as events
use Rattle.hip_core.specs.declared.core_parts.Core.{Core}
use Rattle.hip_runner.specs.QuickSteps.{ActsQuickly}
use Rattle.hip_runner.specs.Reaches.{StepsWithin, allows}
use Rattle.hip_runner.specs.Silent.{is_silent}
use Rattle.hip_runner.specs.declared.here.Here.{Here}
use Rattle.hip_runner.specs.declared.reach.Reach.{Reach}
use Rattle.hip_runner.specs.declared.reach.Reach.TheVariants as reaches

-- A step without an event is within any reach.
pub quiet_allowed : (reach : Reach) → allows reach events.Quiet
quiet_allowed reaches.Plain = refl
quiet_allowed reaches.Quiet = refl
quiet_allowed reaches.Silent = refl

-- An event within reach neither prints nor ends the run.
pub allowed_silent : (reach : Reach) (e : Event) → allows reach e → is_silent e ≡ true
allowed_silent reaches.Plain e a = ap is_silent a
allowed_silent reaches.Quiet e a = ap is_silent a
allowed_silent reaches.Silent e a = a

-- If two events are silent, a choice between them is silent.
pub silent_either : (b : Bool) (x y : Event) → is_silent x ≡ true → is_silent y ≡ true → is_silent (cond b x y) ≡ true
silent_either true x y p q = p
silent_either false x y p q = q

-- A plain step is within any reach.
pub plain_within : {code : Code} {old new : Core} {from to : Here} (reach : Reach) → StepsWithin reaches.Plain code old from new to → StepsWithin reach code old from new to
plain_within {code} {old} {new} {from} {to} reach s = record {
  op = s.op;
  here = s.here;
  acts = record {
    event = events.Quiet;
    allowed = quiet_allowed reach;
    acts = subst (λ (e : Event). ActsQuickly code e s.op old from new to) s.acts.allowed s.acts.acts;
  };
  plain = λ is. s.plain refl;
}
