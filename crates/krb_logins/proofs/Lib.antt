pub mod Passing
pub mod Giving
pub mod Names
mod LastSecond
pub mod Times
pub mod WholeRequests
pub mod WholeReplies
mod AskedBits
mod MetParts
mod Opened
mod NoErrors
pub mod GrantTaken
mod FirstGranted
mod FirstTaken
mod ByPassword
mod FurtherTaken
mod TicketTimes
mod Near
pub mod Judged
pub mod WholePresented
pub mod PresentedRuns
pub mod ReplyTaken
pub mod Outcomes
mod Replying
mod PresentedTickets
pub mod Admissible
mod Admitted
mod NextGranted
mod FurtherGranted
mod ExchangeEnds
mod ApEnds
mod AdmittedBy
mod ByTicket
mod Chained
mod RenewedTickets
mod ByFirst
mod OneKey
pub mod EndsWithOneKey
mod Uses
mod OneLogin
pub mod TakenParts
pub mod ChoicePresented
mod Admitting
pub mod StepEnds
