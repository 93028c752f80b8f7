mod RationCalls
mod BodyParts
