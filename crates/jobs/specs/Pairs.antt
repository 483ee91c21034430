-- Two families side by side.
use Rattle.std.specs.Prelude.{◌≡◌, ◌-◌, ◌<◌, cond, List, ◌==◌}
use Rattle.either.specs.declared.Either.{Either}
use Rattle.either.specs.declared.Either.TheVariants.{Left, Right}
use Rattle.either.specs.Either.{either, map_either}
use Rattle.calls.specs.declared.ending.Ending.{Ending}
use Rattle.calls.specs.declared.order.Order.{Order}
use Rattle.jobs.specs.Meanings.{Meaning}
use Rattle.jobs.specs.Alone.{Ends}

-- the same order with the kind counted from the second family on
abbrev pub lowered : Order → Order
lowered o = record { kind = o.kind - 1; a = o.a; b = o.b; c = o.c; d = o.d }

-- kind 0 goes to the first, and kind k above 0 to the second as k - 1
abbrev pub beside : {V S T : Type 0} → Meaning V S → Meaning V T → Meaning V (Either S T)
beside m n =
    record {
      first = λ o. cond (o.kind == 0) (Left (m.first o)) (Right (n.first (lowered o)));
      request = either m.request n.request;
      after_read = λ s v. map_either (λ l. m.after_read l v) (λ r. n.after_read r v) s;
      after_write = map_either m.after_write n.after_write;
    }

-- a job of a pair that ends does so as a job of its own family
pub record EndsAsItsOwn {V S T : Type 0} (m : Meaning V S) (n : Meaning V T) : Type 0 where
  pub of_first : (o : Order) (values : List V) (ending : Ending) (after : List V) → o.kind ≡ 0 → Ends (beside m n) o values ending after → Ends m o values ending after
  pub of_second : (o : Order) (values : List V) (ending : Ending) (after : List V) → 0 < o.kind → Ends (beside m n) o values ending after → Ends n (lowered o) values ending after
