mod NumberLemmas
mod GroupLemmas
mod PromiseLemmas
mod OpenLemmas
mod HealthLemmas
