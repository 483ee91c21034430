-- What a family of jobs means, over the rows V of a book and the states S of its jobs.
use Rattle.calls.specs.declared.order.Order.{Order}
use Rattle.jobs.specs.declared.request.Request.{Request}

pub record Meaning (V S : Type 0) : Type 0 where
  pub first : Order → S
  pub request : S → Request V
  pub after_read : S → V → S
  pub after_write : S → S
