mod RowLemmas
mod FrontLemmas
mod PlanRowLemmas
mod ChangeLemmas
mod FetchLemmas
mod PointLemmas
mod ObjectLemmas
